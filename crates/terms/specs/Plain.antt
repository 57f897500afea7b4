-- The plain month that a list of calls leaves. Assumes nothing.
use Rattle.std.specs.Prelude.{ℕ, ◌-◌, Bool, cond, List, [], ◌∷◌, ◌==◌, nat_lt}
use Rattle.terms.specs.Calendar.{NextBusinessDay}
use Rattle.terms.specs.Lots.{Dated, dated, Position, buy, sell}
use Rattle.terms.specs.Month.{Month, Declaration, nothing, to_buy, to_sell, effective_sale, final}
use Rattle.terms.specs.OddLots.{OddLotRule}
use Rattle.terms.specs.Selection.{Selection, FiveRules, taken_on}
use Rattle.terms.specs.declared.calls.BondLots.{BondLots}
use Rattle.terms.specs.declared.calls.Call.{Call}
use Rattle.terms.specs.declared.calls.Call.TheVariants.{Trade, DeclarePurchase, DeclareSale, Withdraw, OpenTrial, KeepTrial, DropTrial, Preview, Draw, LegResult, NextDay}

-- A function with another value at one account.
abbrev pub update : {A : Type 0} → (ℕ → A) → ℕ → A → ℕ → A
update f a x b = cond (a == b) x (f b)

-- A trade changes the buyer's position and the seller's.
abbrev pub trade : ℕ → ℕ → ℕ → Month → Month
trade buyer seller n m = record {
  accounts = m.accounts;
  last = m.last;
  today = m.today;
  positions = update (update m.positions buyer (buy m.today n (m.positions buyer))) seller (sell n (m.positions seller));
  declarations = m.declarations;
}

-- A declaration takes the place of the account's own; a withdrawal puts none there.
abbrev pub declare : ℕ → Declaration → Month → Month
declare a x m = record {
  accounts = m.accounts;
  last = m.last;
  today = m.today;
  positions = m.positions;
  declarations = update m.declarations a x;
}

-- A new day starts without declarations.
abbrev pub start_day : ℕ → Month → Month
start_day day m = record {
  accounts = m.accounts;
  last = m.last;
  today = day;
  positions = m.positions;
  declarations = λ a. nothing;
}

-- The lots left once those that `gone` says are gone from each day; a day without lots is left out.
abbrev pub reduced : (ℕ → ℕ) → List Dated → List Dated
reduced gone [] = []
reduced gone (l ∷ ls) = cond (nat_lt (gone l.day) l.lots) (dated l.day (l.lots - gone l.day) ∷ reduced gone ls) (reduced gone ls)

-- A position once its paired lots are gone: all lots in the final round, and else the effective short lots and the selected long ones.
abbrev pub position_after : Month → Selection → ℕ → Position
position_after m sel a = record {
  long = cond (final m) [] (reduced (taken_on sel a) (m.positions a).long);
  short = cond (final m) 0 ((m.positions a).short - effective_sale m a);
}

-- A draw, whose selection is given.
abbrev pub draw : Selection → Month → Month
draw sel m = record {
  accounts = m.accounts;
  last = m.last;
  today = m.today;
  positions = position_after m sel;
  declarations = m.declarations;
}

-- What a month runs under: its business days, its odd-lot rule, and how it was opened.
pub record Setup : Type 0 where
  pub business : ℕ → Bool
  pub share : OddLotRule
  pub start : Month

-- The plain month that a list of calls, the latest first, leaves of the opened month.
pub data Leaves (s : Setup) : List Call → Month → Type 0 where
  opened : Leaves s [] s.start
  traded : {buyer seller n : ℕ} {calls : List Call} {m : Month} →
      Leaves s calls m → Leaves s (Trade buyer seller n ∷ calls) (trade buyer seller n m)
  declared_purchase : {minute a n : ℕ} {calls : List Call} {m : Month} →
      Leaves s calls m → Leaves s (DeclarePurchase minute a n ∷ calls) (declare a (to_buy n) m)
  declared_sale : {minute a n : ℕ} {bonds : List BondLots} {calls : List Call} {m : Month} →
      Leaves s calls m → Leaves s (DeclareSale minute a n bonds ∷ calls) (declare a (to_sell bonds) m)
  withdrawn : {minute a : ℕ} {calls : List Call} {m : Month} →
      Leaves s calls m → Leaves s (Withdraw minute a ∷ calls) (declare a nothing m)
  next_day : {calls : List Call} {m : Month} {day : ℕ} →
      Leaves s calls m → NextBusinessDay s.business m.today day → Leaves s (NextDay ∷ calls) (start_day day m)
  drawn : {calls : List Call} {m : Month} {sel : Selection} →
      Leaves s calls m → FiveRules s.share m sel → Leaves s (Draw ∷ calls) (draw sel m)
  -- the other calls change nothing
  trial_opened : {calls : List Call} {m : Month} → Leaves s calls m → Leaves s (OpenTrial ∷ calls) m
  trial_kept : {calls : List Call} {m : Month} → Leaves s calls m → Leaves s (KeepTrial ∷ calls) m
  trial_dropped : {calls : List Call} {m : Month} → Leaves s calls m → Leaves s (DropTrial ∷ calls) m
  previewed : {day : ℕ} {calls : List Call} {m : Month} → Leaves s calls m → Leaves s (Preview day ∷ calls) m
  resulted : {leg mark unfinished : ℕ} {calls : List Call} {m : Month} → Leaves s calls m → Leaves s (LegResult leg mark unfinished ∷ calls) m
