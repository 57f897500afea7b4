-- Where a number of lots is reached: the lots of the days before a day, the days from a day on, and what full and empty groups give.
-- Assumes nothing.
use Rattle.std.proofs.Common.{◌≡◌, ℕ, ◌+◌, ◌-◌, ◌<◌, ◌≤◌, Bool, true, false, cond, ltb, leb, List, [], ◌∷◌, sum_by, filter, refl, inl, inr, arith}
use Rattle.std.proofs.lemmas.List.Sums.{sum_by-cons}
use Rattle.std.proofs.lemmas.Bool.{false≢true, cond-true, cond-false}
use Rattle.std.proofs.lemmas.Bool.Decides.{nat_tests}
use Rattle.terms.specs.Month.{Month, has, held, covered, final, lots_there, holders, purchase_days}
use Rattle.terms.specs.OddLots.{OddLotRule, KeepsMeaning}
use Rattle.terms.specs.Rounds.{before, group_size, class_size, amount, chosen}
use Rattle.terms.specs.Facts.{Rising, Sound}
use Rattle.terms.specs.declared.rows.Class.{Class}
use Rattle.terms.specs.declared.rows.Class.TheVariants.{Undeclared, Virtual}
use Rattle.terms.proofs.Sums.{has_here, has_there, has_cases}
use Rattle.terms.proofs.Rising.{sum_same_in, sum_no_term}
use Rattle.terms.proofs.Exists.{within, chosen_le, full}

-- one day's lots count, or do not
counts : (t : ℕ → ℕ) (e d : ℕ) → e < d → cond (ltb e d) (t e) 0 ≡ t e
counts t e d l = grind (arith, nat_tests)

skips : (t : ℕ → ℕ) (e d : ℕ) → d ≤ e → cond (ltb e d) (t e) 0 ≡ 0
skips t e d l = grind (arith, nat_tests)

-- no day of the list lies from `from` up to d
pub before_same : (t : ℕ → ℕ) (days : List ℕ) (from d : ℕ) → from ≤ d → ((e : ℕ) → has e days ≡ true → e < d → e < from) →
    before t days d ≡ before t days from
before_same t days from d l h =
    sum_same_in (λ e. cond (ltb e d) (t e) 0) (λ e. cond (ltb e from) (t e) 0) days (λ e i. grind (arith, nat_tests, h e i))

-- a day's own lots come next
pub before_next : (t : ℕ → ℕ) (days : List ℕ) (d : ℕ) → Rising days → has d days ≡ true → before t days (d + 1) ≡ before t days d + t d
before_next t [] d r i = absurd (false≢true i)
before_next t (e ∷ es) d r i =
    grind (
      arith,
      nat_tests,
      sum_by-cons (λ x. cond (ltb x (d + 1)) (t x) 0) e es,
      sum_by-cons (λ x. cond (ltb x d) (t x) 0) e es,
      r.0 d,
      before_same t es d (d + 1) (omega arith),
      before_next t es d r.1,
    )

-- behind the last day all lots lie before
pub before_end : (t : ℕ → ℕ) (days : List ℕ) (from : ℕ) → ((e : ℕ) → has e days ≡ true → e < from) → before t days from ≡ sum_by t days
before_end t days from h = sum_same_in (λ e. cond (ltb e from) (t e) 0) t days (λ e i. counts t e from (h e i))

pub before_start : (t : ℕ → ℕ) (days : List ℕ) → before t days 0 ≡ 0
before_start t days = sum_no_term (λ e. cond (ltb e 0) (t e) 0) days (λ e i. skips t e 0 (omega arith))

-- The days from a day on.
abbrev pub from_day : ℕ → List ℕ → List ℕ
from_day from days = filter (λ e. leb from e) days

-- two tests that agree on a list keep the same of it
kept_same_in : (p q : ℕ → Bool) (xs : List ℕ) → ((x : ℕ) → has x xs ≡ true → p x ≡ q x) → filter p xs ≡ filter q xs
kept_same_in p q [] h = refl
kept_same_in p q (x ∷ xs) h = grind (arith, h x (has_here x xs), kept_same_in p q xs (λ y i. h y (has_there y x xs i)))

kept_none : (p : ℕ → Bool) (xs : List ℕ) → ((x : ℕ) → has x xs ≡ true → p x ≡ false) → filter p xs ≡ []
kept_none p [] h = refl
kept_none p (x ∷ xs) h = grind (arith, h x (has_here x xs), kept_none p xs (λ y i. h y (has_there y x xs i)))

kept_all : (p : ℕ → Bool) (xs : List ℕ) → ((x : ℕ) → has x xs ≡ true → p x ≡ true) → filter p xs ≡ xs
kept_all p [] h = refl
kept_all p (x ∷ xs) h = grind (arith, h x (has_here x xs), kept_all p xs (λ y i. h y (has_there y x xs i)))

pub from_same : (days : List ℕ) (from d : ℕ) → from ≤ d → ((e : ℕ) → has e days ≡ true → e < d → e < from) → from_day from days ≡ from_day d days
from_same days from d l h = kept_same_in (λ e. leb from e) (λ e. leb d e) days (λ e i. grind (arith, nat_tests, h e i))

pub from_next : (days : List ℕ) (d : ℕ) → Rising days → has d days ≡ true → from_day d days ≡ d ∷ from_day (d + 1) days
from_next [] d r i = absurd (false≢true i)
from_next (e ∷ es) d r i =
    elim (has_cases d e es i) [
      | inl q ↦ let rest = from_same es d (d + 1) (omega arith) (λ x j k. absurd (omega (arith, r.0 x j))) in grind (arith, nat_tests)
      | inr j ↦ grind (arith, nat_tests, r.0 d j, from_next es d r.1 j)
    ]

pub from_end : (days : List ℕ) (from : ℕ) → ((e : ℕ) → has e days ≡ true → e < from) → from_day from days ≡ []
from_end days from h = kept_none (λ e. leb from e) days (λ e i. grind (arith, nat_tests, h e i))

pub from_start : (days : List ℕ) → from_day 0 days ≡ days
from_start days = kept_all (λ e. leb 0 e) days (λ e i. grind (arith, nat_tests))

-- a full group gives all its lots, and an empty one none
pub full_group : (share : OddLotRule) (m : Month) → KeepsMeaning share → Sound m → (a d : ℕ) (c : Class) →
    amount m c d ≡ group_size m c d → chosen share m a d c ≡ lots_there m a d c
full_group share m keeps sound a d c e =
    omega (arith, within share m keeps sound a d c, full share m keeps sound a d c (λ l. omega arith))

pub empty_group : (share : OddLotRule) (m : Month) → KeepsMeaning share → Sound m → (a d : ℕ) (c : Class) →
    amount m c d ≡ 0 → chosen share m a d c ≡ 0
empty_group share m keeps sound a d c e = omega (arith, chosen_le share m keeps sound a d c)

-- a final round has no undeclared lots, and any other no virtual ones
pub unused_lots : (m : Month) (a d : ℕ) → (final m ≡ true → lots_there m a d Undeclared ≡ 0) × (final m ≡ false → lots_there m a d Virtual ≡ 0)
unused_lots m a d = (cond-true (final m) 0 (held m a d - covered m a d), cond-false (final m) (held m a d - covered m a d) 0)

none_in : (f : ℕ → ℕ) (xs : List ℕ) → ((x : ℕ) → f x ≡ 0) → sum_by f xs ≡ 0
none_in f xs h = sum_no_term f xs (λ x i. h x)

pub unused_class : (m : Month) (d : ℕ) → (final m ≡ true → group_size m Undeclared d ≡ 0) × (final m ≡ false → group_size m Virtual d ≡ 0)
unused_class m d = (
  λ e. none_in (λ a. lots_there m a d Undeclared) (holders m Undeclared d) (λ a. (unused_lots m a d).0 e),
  λ e. none_in (λ a. lots_there m a d Virtual) (holders m Virtual d) (λ a. (unused_lots m a d).1 e),
)

pub unused_size : (m : Month) → (final m ≡ true → class_size m Undeclared ≡ 0) × (final m ≡ false → class_size m Virtual ≡ 0)
unfolding class_size
unused_size m = (
  λ e. none_in (group_size m Undeclared) (purchase_days m) (λ d. (unused_class m d).0 e),
  λ e. none_in (group_size m Virtual) (purchase_days m) (λ d. (unused_class m d).1 e),
)
