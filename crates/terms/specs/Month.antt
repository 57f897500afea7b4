-- The plain month: who holds and has declared what on which day, and what of it counts in a round. Assumes nothing.
use Rattle.std.specs.Prelude.{ℕ, ◌-◌, min, Bool, true, false, cond, not, ◌&&◌, ◌||◌, nat_lt, List, [], ◌∷◌, map, sum_by, filter, ◌==◌}
use Rattle.terms.specs.Lots.{Dated, dated, Position, lots_in, lots_of_day, lots_before}
use Rattle.terms.specs.declared.calls.BondLots.{BondLots}
use Rattle.terms.specs.declared.rows.Class.{Class}
use Rattle.terms.specs.declared.rows.Class.TheVariants.{Declared, Undeclared, Virtual}
use Rattle.terms.specs.declared.holdings.Holding.{Holding}
use Rattle.terms.specs.declared.holdings.Side.{Side}
use Rattle.terms.specs.declared.holdings.Side.TheVariants.{Long, Short}

-- What an account has declared for today's round: nothing, lots to buy, or bonds with lots to sell.
pub data Declaration : Type 0 where
  nothing : Declaration
  to_buy : ℕ → Declaration
  to_sell : List BondLots → Declaration

-- A month on one day: its accounts in rising order, its last trading day, today, and each account's position and declaration.
pub record Month : Type 0 where
  pub accounts : List ℕ
  pub last : ℕ
  pub today : ℕ
  pub positions : ℕ → Position
  pub declarations : ℕ → Declaration

-- Whether a row of the opening is a long one.
abbrev pub is_long : Side → Bool
is_long Long = true
is_long Short = false

-- The position that the rows give an account.
abbrev pub opening_position : List Holding → ℕ → Position
opening_position rows a = record {
  long = map (λ (h : Holding). dated h.day h.lots) (filter (λ (h : Holding). (h.account == a) && is_long h.side) rows);
  short = sum_by (λ (h : Holding). cond (h.account == a && not (is_long h.side)) h.lots 0) rows;
}

-- The month as it is opened: on its first day, with no declaration.
abbrev pub opening : ℕ → ℕ → List ℕ → List Holding → Month
opening first last accounts rows = record {
  accounts = accounts;
  last = last;
  today = first;
  positions = opening_position rows;
  declarations = λ a. nothing;
}

-- The lots that a seller declares: the total of its bonds.
abbrev pub declared_sale : Declaration → ℕ
declared_sale nothing = 0
declared_sale (to_buy n) = 0
declared_sale (to_sell bonds) = sum_by (λ (b : BondLots). b.lots) bonds

-- The bonds that a seller declares.
abbrev pub declared_bonds : Declaration → List BondLots
declared_bonds nothing = []
declared_bonds (to_buy n) = []
declared_bonds (to_sell bonds) = bonds

-- The lots that a buyer declares.
abbrev pub declared_purchase : Declaration → ℕ
declared_purchase nothing = 0
declared_purchase (to_buy n) = n
declared_purchase (to_sell bonds) = 0

-- The effective quantity of a seller: the smaller of the declared quantity and the lots held on that side at the close.
abbrev pub effective_sale : Month → ℕ → ℕ
effective_sale m a = min (declared_sale (m.declarations a)) (m.positions a).short

-- The same of a buyer.
abbrev pub effective_purchase : Month → ℕ → ℕ
effective_purchase m a = min (declared_purchase (m.declarations a)) (lots_in (m.positions a).long)

-- The round of the last trading day is the final one.
abbrev pub final : Month → Bool
final m = m.today == m.last

-- Whether a number stands in a list.
abbrev pub has : ℕ → List ℕ → Bool
has n [] = false
has n (x ∷ xs) = x == n || has n xs

-- The long lots of an account and day; none if the month does not have the account.
abbrev pub held : Month → ℕ → ℕ → ℕ
held m a d = cond (has a m.accounts) (lots_of_day d (m.positions a).long) 0

-- Those of them that its declaration covers: a buyer's effective lots are its oldest.
abbrev pub covered : Month → ℕ → ℕ → ℕ
covered m a d = min (held m a d) (effective_purchase m a - lots_before d (m.positions a).long)

-- The lots of an account, day and class.
abbrev pub lots_there : Month → ℕ → ℕ → Class → ℕ
lots_there m a d Declared = covered m a d
lots_there m a d Undeclared = cond (final m) 0 (held m a d - covered m a d)
lots_there m a d Virtual = cond (final m) (held m a d - covered m a d) 0

-- The accounts with lots of a class and day, in rising order.
abbrev pub holders : Month → Class → ℕ → List ℕ
holders m c d = filter (λ a. nat_lt 0 (lots_there m a d c)) m.accounts

-- A day put among rising days, if it is not there.
abbrev pub with_day : ℕ → List ℕ → List ℕ
with_day d [] = d ∷ []
with_day d (e ∷ es) = cond (nat_lt d e) (d ∷ e ∷ es) (cond (d == e) (e ∷ es) (e ∷ with_day d es))

-- The days of some lots, put among other days.
abbrev pub with_days : List Dated → List ℕ → List ℕ
with_days [] days = days
with_days (l ∷ ls) days = with_day l.day (with_days ls days)

-- The days of the lots of some accounts.
abbrev pub days_among : (ℕ → Position) → List ℕ → List ℕ
days_among positions [] = []
days_among positions (a ∷ rest) = with_days (positions a).long (days_among positions rest)

-- The days of the lots of all accounts.
abbrev pub purchase_days : Month → List ℕ
purchase_days m = days_among m.positions m.accounts
