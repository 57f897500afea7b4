-- A selection of long lots for a round, and the five rules that it keeps. Assumes nothing.
use Rattle.std.specs.Prelude.{◌≡◌, ℕ, ◌+◌, ◌<◌, ◌≤◌, cond, ◌&&◌, List, map, length, sum_by, ◌==◌}
use Rattle.terms.specs.Month.{Month, lots_there, holders, purchase_days, effective_sale}
use Rattle.terms.specs.OddLots.{OddLotRule}
use Rattle.terms.specs.declared.rows.Class.{Class}
use Rattle.terms.specs.declared.rows.Class.TheVariants.{Declared, Undeclared, Virtual}
use Rattle.terms.specs.declared.rows.Row.{Row}
use Rattle.terms.specs.declared.rows.Row.TheVariants.{ClassLots, Leg, Refused}

-- The lots taken from each account, day and class.
abbrev pub Selection : Type 0
Selection = ℕ → ℕ → Class → ℕ

-- The letter of a class in a row: D, U or V.
abbrev pub letter : Class → ℕ
letter Declared = 68
letter Undeclared = 85
letter Virtual = 86

-- The selection that the rows of a draw tell: what a row gives, and else 0.
abbrev pub told_by : Row → Selection
told_by (ClassLots class account day lots) a d c = cond (account == a && day == d && letter class == letter c) lots 0
told_by (Leg seller buyer lots bond) a d c = 0
told_by (Refused number) a d c = 0

-- The selection that all rows of a draw tell.
abbrev pub told : List Row → Selection
told rows a d c = sum_by (λ (r : Row). told_by r a d c) rows

-- The lots taken from an account and day, of every class.
abbrev pub taken_on : Selection → ℕ → ℕ → ℕ
taken_on sel a d = sel a d Declared + sel a d Undeclared + sel a d Virtual

-- The lots taken from an account, of every day and class.
abbrev pub taken_from : Month → Selection → ℕ → ℕ
taken_from m sel a = sum_by (taken_on sel a) (purchase_days m)

-- The lots taken from the accounts with lots of a class and day.
abbrev pub taken_there : Month → Selection → Class → ℕ → ℕ
taken_there m sel c d = sum_by (λ a. sel a d c) (holders m c d)

-- The five rules, under the odd-lot rule `share`.
pub record FiveRules (share : OddLotRule) (m : Month) (sel : Selection) : Type 0 where
  -- from an account, day and class it takes at most the lots there
  pub within : (a d : ℕ) (c : Class) → sel a d c ≤ lots_there m a d c
  -- it takes as many lots in all as the sellers deliver
  pub complete : sum_by (taken_from m sel) m.accounts ≡ sum_by (effective_sale m) m.accounts
  -- it takes no undeclared or virtual lot while a declared lot is left
  pub declared_first : (a d a' d' : ℕ) → 0 < sel a d Undeclared + sel a d Virtual → lots_there m a' d' Declared ≤ sel a' d' Declared
  -- within a class it takes no lot while an older day's lot is left
  pub oldest_first : (c : Class) (a d a' d' : ℕ) → d' < d → 0 < sel a d c → lots_there m a' d' c ≤ sel a' d' c
  -- the accounts with lots of one class and day give what the odd-lot rule says for their lots and the number taken there
  pub shared : (c : Class) (d : ℕ) → 0 < length (holders m c d) →
      map (λ a. sel a d c) (holders m c d) ≡ share (map (λ a. lots_there m a d c) (holders m c d)) (taken_there m sel c d)
