-- A worked month: five accounts, one draw, and what the definitions say of it. Assumes nothing.
use Rattle.std.specs.Prelude.{◌≡◌, ℕ, List, [], ◌∷◌, replicate, Some, None}
use Rattle.terms.specs.Lots.{dated}
use Rattle.terms.specs.Month.{Month, nothing, to_buy, to_sell, opening, purchase_days}
use Rattle.terms.specs.OddLots.{running}
use Rattle.terms.specs.Selection.{Selection, FiveRules, told}
use Rattle.terms.specs.Pairs.{pair, Paired, delivery_pairs, failure_pairs}
use Rattle.terms.specs.Rounds.{round_rows}
use Rattle.terms.specs.Answers.{refused, granted}
use Rattle.terms.specs.Struck.{Answers, struck}
use Rattle.terms.specs.Calendar.{weekdays}
use Rattle.terms.specs.Law.{MonthLaw}
use Rattle.terms.specs.Plain.{Setup, trade, declare, start_day, draw}
use Rattle.terms.specs.declared.calls.BondCode.{BondCode}
use Rattle.terms.specs.declared.calls.BondLots.{BondLots}
use Rattle.terms.specs.declared.calls.Call.{Call}
use Rattle.terms.specs.declared.calls.Call.TheVariants.{Trade, DeclarePurchase, DeclareSale, Withdraw, Preview, OpenTrial, KeepTrial, DropTrial, Draw, LegResult, NextDay}
use Rattle.terms.specs.declared.rows.Class.TheVariants.{Declared, Undeclared, Virtual}
use Rattle.terms.specs.declared.holdings.Holding.{Holding}
use Rattle.terms.specs.declared.rows.Row.{Row}
use Rattle.terms.specs.declared.rows.Row.TheVariants.{ClassLots, Leg}
use Rattle.terms.specs.declared.holdings.Side.{Side}
use Rattle.terms.specs.declared.holdings.Side.TheVariants.{Long, Short}

-- The bond AAAAAAAA.
abbrev pub bond_a : BondCode
bond_a = record { bytes = replicate 8 65 }

-- The bond BBBBBBBB.
abbrev pub bond_b : BondCode
bond_b = record { bytes = replicate 8 66 }

-- A row of the opening.
abbrev holding : ℕ → ℕ → Side → ℕ → Holding
holding a d s n = record { account = a; day = d; side = s; lots = n }

-- The month: days 20,090 to 20,103; 10 and 11 are short, the others long.
abbrev pub month_m : Month
month_m = opening 20090 20103 (10 ∷ 11 ∷ 20 ∷ 30 ∷ 40 ∷ [])
    (holding 10 0 Short 10 ∷ holding 11 0 Short 8 ∷ holding 20 20001 Long 6 ∷ holding 30 20001 Long 3 ∷ holding 30 20050 Long 5
    ∷ holding 40 20060 Long 4 ∷ [])

-- Lots of a bond.
abbrev bond_lots : BondCode → ℕ → BondLots
bond_lots b n = record { bond = b; lots = n }

-- An unused entry.
abbrev unused : BondLots
unused = bond_lots (record { bytes = replicate 8 0 }) 0

-- The bonds that 10 declares: 7 lots of bond A and 3 of bond B.
abbrev pub bonds_10 : List BondLots
bonds_10 = bond_lots bond_a 7 ∷ bond_lots bond_b 3 ∷ unused ∷ unused ∷ []

-- The month after 40 declares to buy 4 lots, and 10 to sell its bonds.
abbrev pub declared_m : Month
declared_m = declare 10 (to_sell bonds_10) (declare 40 (to_buy 4) month_m)

-- The rows of the draw.
abbrev pub rows_m : List Row
rows_m = ClassLots Declared 40 20060 4 ∷ ClassLots Undeclared 20 20001 4 ∷ ClassLots Undeclared 30 20001 2
    ∷ Leg 10 20 4 (Some bond_a) ∷ Leg 10 30 2 (Some bond_a) ∷ Leg 10 40 1 (Some bond_a) ∷ Leg 10 40 3 (Some bond_b) ∷ []

-- Another selection: one lot more of 20 and one less of 30.
abbrev pub changed_m : Selection
changed_m = told (ClassLots Declared 40 20060 4 ∷ ClassLots Undeclared 20 20001 5 ∷ ClassLots Undeclared 30 20001 1 ∷ [])

-- The same month and declarations on the last trading day, and the rows of its draw.
abbrev pub final_m : Month
final_m = record {
  accounts = declared_m.accounts;
  last = 20103;
  today = 20103;
  positions = declared_m.positions;
  declarations = declared_m.declarations;
}

-- The rows of the final draw.
abbrev pub final_rows_m : List Row
final_rows_m = ClassLots Declared 40 20060 4 ∷ ClassLots Virtual 20 20001 4 ∷ ClassLots Virtual 30 20001 2
    ∷ Leg 10 20 4 (Some bond_a) ∷ Leg 10 30 2 (Some bond_a) ∷ Leg 10 40 1 (Some bond_a) ∷ Leg 10 40 3 (Some bond_b)
    ∷ Leg 11 20 2 None ∷ Leg 11 30 6 None ∷ []

-- The next day: 40 buys 2 lots from 10; 20 declares and withdraws; then 30 declares to buy 2 lots, which are of two days, and 11 to sell 3
-- of bond A. And the rows of its draw.
abbrev pub bonds_11 : List BondLots
bonds_11 = bond_lots bond_a 3 ∷ unused ∷ unused ∷ unused ∷ []

-- The month on the second day, before its draw.
abbrev pub second_m : Month
second_m = declare 11 (to_sell bonds_11) (declare 30 (to_buy 2) (declare 20 nothing (declare 20 (to_buy 1)
    (trade 40 10 2 (start_day 20091 (draw (told rows_m) declared_m))))))

-- The rows of the second draw.
abbrev pub second_rows_m : List Row
second_rows_m = ClassLots Declared 30 20001 1 ∷ ClassLots Declared 30 20050 1 ∷ ClassLots Undeclared 20 20001 1
    ∷ Leg 11 20 1 (Some bond_a) ∷ Leg 11 30 2 (Some bond_a) ∷ []

-- A run of both days, with a dropped trial, a refused call, a preview, the results of the first day's legs and a kept trial; and what the
-- calls answered.
abbrev pub calls_m : List Call
calls_m = OpenTrial ∷ DeclarePurchase 510 40 3 ∷ DropTrial ∷ DeclarePurchase 510 40 4 ∷ DeclareSale 510 10 9 bonds_10 ∷ DeclarePurchase 991 20 6 ∷ Draw
    ∷ NextDay ∷ Preview 20091 ∷ LegResult 0 0 0 ∷ LegResult 1 0 0 ∷ LegResult 2 0 0 ∷ LegResult 3 0 0
    ∷ OpenTrial ∷ Trade 40 10 2 ∷ KeepTrial ∷ DeclarePurchase 510 20 1 ∷ Withdraw 511 20 ∷ DeclarePurchase 511 30 2 ∷ DeclareSale 511 11 3 bonds_11 ∷ Draw ∷ []

-- What the calls of the run answered.
abbrev pub answers_m : Answers
answers_m = granted [] ∷ granted [] ∷ granted [] ∷ granted [] ∷ granted [] ∷ refused 30 ∷ granted rows_m
    ∷ granted [] ∷ granted [] ∷ granted [] ∷ granted [] ∷ granted [] ∷ granted []
    ∷ granted [] ∷ granted [] ∷ granted [] ∷ granted [] ∷ granted [] ∷ granted [] ∷ granted [] ∷ granted second_rows_m ∷ []

-- What the run stands under.
abbrev pub setup_m : Setup
setup_m = record { business = weekdays; share = running; start = month_m }

-- The law, of this run.
abbrev pub LawM : Type 0
LawM = MonthLaw setup_m calls_m answers_m

-- The draw's selection keeps the five rules, the other does not; that of the final round keeps them too.
abbrev pub SelectsM : Type 0
SelectsM = FiveRules running declared_m (told rows_m) × (FiveRules running declared_m changed_m → ⊥)
    × FiveRules running final_m (told final_rows_m)

-- Its two lists of pairs are as they should be, in the ordinary and in the final round.
abbrev pub PairsM : Type 0
PairsM = Paired declared_m (told rows_m) rows_m × Paired final_m (told final_rows_m) final_rows_m

-- The pairs, and the positions after the draw.
abbrev pub ListsM : Type 0
ListsM = (delivery_pairs rows_m ≡ pair 10 20 4 ∷ pair 10 30 2 ∷ pair 10 40 4 ∷ [])
    × (failure_pairs final_rows_m ≡ pair 11 20 2 ∷ pair 11 30 6 ∷ [])
    × (((draw (told rows_m) declared_m).positions 30).long ≡ dated 20001 1 ∷ dated 20050 5 ∷ [])
    × (((draw (told rows_m) declared_m).positions 10).short ≡ 0)
    × (((draw (told rows_m) declared_m).positions 11).short ≡ 8)
    × ((draw (told final_rows_m) final_m).positions 11 ≡ record { long = []; short = 0 })
    × ((draw (told final_rows_m) final_m).positions 30 ≡ record { long = []; short = 0 })
    × (purchase_days declared_m ≡ 20001 ∷ 20050 ∷ 20060 ∷ [])

-- The rows of a round are those of both draws.
abbrev pub RoundsM : Type 0
RoundsM = (round_rows running declared_m ≡ rows_m) × (round_rows running final_m ≡ final_rows_m)

-- Trades on the opening: a sale takes the oldest lots, and turns short where there are too few; a purchase covers short lots first.
abbrev pub TradesM : Type 0
TradesM = ((trade 20 30 4 month_m).positions 20 ≡ record { long = dated 20001 6 ∷ dated 20090 4 ∷ []; short = 0 })
    × ((trade 20 30 4 month_m).positions 30 ≡ record { long = dated 20050 4 ∷ []; short = 0 })
    × ((trade 20 11 2 (trade 20 30 4 month_m)).positions 20 ≡ record { long = dated 20001 6 ∷ dated 20090 6 ∷ []; short = 0 })
    × ((trade 10 40 12 month_m).positions 10 ≡ record { long = dated 20090 2 ∷ []; short = 0 })
    × ((trade 10 40 12 month_m).positions 40 ≡ record { long = []; short = 8 })
    × ((trade 10 40 12 month_m).positions 11 ≡ record { long = []; short = 8 })

-- A trial kept in a dropped trial is left out with it.
abbrev pub StrikesAll : Type 0
StrikesAll = struck (OpenTrial ∷ DeclarePurchase 510 40 4 ∷ OpenTrial ∷ Trade 20 40 1 ∷ KeepTrial ∷ DropTrial ∷ [])
    (granted [] ∷ granted [] ∷ granted [] ∷ granted [] ∷ granted [] ∷ granted [] ∷ []) ≡ []

-- The running rule on three lots of one.
abbrev pub RunningThree : Type 0
RunningThree = running (1 ∷ 1 ∷ 1 ∷ []) 2 ≡ 0 ∷ 1 ∷ 1 ∷ []
