-- One selection keeps the five rules, and one plain month is left by a list of calls. Assumes nothing.
use Rattle.std.proofs.Common.{◌≡◌, ℕ, ◌+◌, ◌<◌, ◌≤◌, true, cond, eqb, ltb, ◌⊎◌, List, [], ◌∷◌, map, sum_by, sym, refl, ap, ◌∙◌, subst, inl, inr, arith}
use mathlib.Core.Path.{fun_ext}
use Rattle.std.proofs.lemmas.List.Sums.{sum_by-cons, sum_by-le-sum_by}
use Rattle.std.proofs.lemmas.Bool.{cases_lt, cases_Bool, cases_eq, ltb-false, lt-ltb, false≢true, eqb-false}
use Rattle.std.proofs.lemmas.Bool.Decides.{nat_tests}
use Rattle.terms.specs.Lots.{Dated, Position, lots_of_day}
use Rattle.terms.specs.Month.{Month, has, held, lots_there, holders, purchase_days, with_day, with_days, days_among}
use Rattle.terms.specs.OddLots.{OddLotRule}
use Rattle.terms.specs.Selection.{Selection, FiveRules, letter, taken_on, taken_from, taken_there}
use Rattle.terms.specs.Facts.{SelectionAlone}
use Rattle.terms.specs.declared.rows.Class.{Class}
use Rattle.terms.specs.declared.rows.Class.TheVariants.{Declared, Undeclared, Virtual}
use Rattle.terms.proofs.Sums.{has_length, sum_lt, sum_gap, sum_add, sum_swap, sum_kept, has_kept, map_agrees}

-- lots of a class are held lots
pub there_le_held : (m : Month) (a d : ℕ) (c : Class) → lots_there m a d c ≤ held m a d
there_le_held m a d Declared = omega arith
there_le_held m a d Undeclared = grind (arith, nat_tests)
there_le_held m a d Virtual = grind (arith, nat_tests)

-- an account with lots is one of the month
pub there_known : (m : Month) (a d : ℕ) (c : Class) → 0 < lots_there m a d c → has a m.accounts ≡ true
there_known m a d c h = grind (arith, nat_tests, there_le_held m a d c)

pub has_with_day : (x d : ℕ) (days : List ℕ) → (d ≡ x) ⊎ (has x days ≡ true) → has x (with_day d days) ≡ true
has_with_day x d [] h = grind (arith, nat_tests)
has_with_day x d (y ∷ ys) h = grind (arith, nat_tests, has_with_day x d ys)

pub has_with_days : (x : ℕ) (ls : List Dated) (days : List ℕ) → has x days ≡ true → has x (with_days ls days) ≡ true
has_with_days x [] days h = h
has_with_days x (l ∷ ls) days h = has_with_day x l.day (with_days ls days) (inr (has_with_days x ls days h))

lots_day : (x : ℕ) (ls : List Dated) (days : List ℕ) → 0 < lots_of_day x ls → has x (with_days ls days) ≡ true
lots_day x [] days h = absurd (omega arith)
lots_day x (l ∷ ls) days h =
    grind (arith, nat_tests, has_with_day x l.day (with_days ls days), sum_by-cons (λ (k : Dated). cond (eqb k.day x) k.lots 0) l ls, lots_day x ls days)

account_day : (positions : ℕ → Position) (accounts : List ℕ) (a d : ℕ) → has a accounts ≡ true → 0 < lots_of_day d (positions a).long →
    has d (days_among positions accounts) ≡ true
account_day positions [] a d i h = absurd (false≢true i)
account_day positions (b ∷ bs) a d i h =
    grind (
      arith,
      nat_tests,
      lots_day d (positions b).long (days_among positions bs),
      has_with_days d (positions b).long (days_among positions bs),
      account_day positions bs a d,
    )

-- a day with lots is a day of purchase
pub there_day : (m : Month) (a d : ℕ) (c : Class) → 0 < lots_there m a d c → has d (purchase_days m) ≡ true
there_day m a d c h = grind (arith, nat_tests, there_known m a d c h, there_le_held m a d c, account_day m.positions m.accounts a d)

-- lots of one class on a day, by all accounts
group : Month → Selection → Class → ℕ → ℕ
group m s c d = sum_by (λ a. s a d c) m.accounts

day_total : Month → Selection → ℕ → ℕ
day_total m s d = sum_by (λ a. taken_on s a d) m.accounts

-- a selection's total, day by day
total_by_day : (m : Month) (s : Selection) → sum_by (taken_from m s) m.accounts ≡ sum_by (day_total m s) (purchase_days m)
unfolding day_total
total_by_day m s = sum_swap (λ a d. taken_on s a d) m.accounts (purchase_days m)

day_by_class : (m : Month) (s : Selection) (d : ℕ) → day_total m s d ≡ group m s Declared d + group m s Undeclared d + group m s Virtual d
unfolding day_total group
day_by_class m s d =
    omega (
      arith,
      sum_add (λ a. s a d Declared + s a d Undeclared) (λ a. s a d Virtual) m.accounts,
      sum_add (λ a. s a d Declared) (λ a. s a d Undeclared) m.accounts,
    )

pub letter_same : (c' c : Class) → eqb (letter c') (letter c) ≡ true → c' ≡ c
letter_same Declared Declared h = refl
letter_same Declared Undeclared h = absurd (false≢true h)
letter_same Declared Virtual h = absurd (false≢true h)
letter_same Undeclared Declared h = absurd (false≢true h)
letter_same Undeclared Undeclared h = refl
letter_same Undeclared Virtual h = absurd (false≢true h)
letter_same Virtual Declared h = absurd (false≢true h)
letter_same Virtual Undeclared h = absurd (false≢true h)
letter_same Virtual Virtual h = refl

pub class_cases : (c c' : Class) → (c ≡ c') ⊎ (c ≡ c' → ⊥)
class_cases c c' =
    elim (cases_Bool (eqb (letter c) (letter c'))) [
      | inl e ↦ inl (letter_same c c' e)
      | inr e ↦ inr (λ q. eqb-false (letter c) (letter c') e (ap letter q))
    ]

module _ (share : OddLotRule) (m : Month) (s t : Selection) (ks : FiveRules share m s) (kt : FiveRules share m t) where
  -- the number taken there is taken from all accounts
  there_group : (c : Class) (d : ℕ) → taken_there m s c d ≡ group m s c d
  unfolding group
  there_group c d =
      sum_kept (λ a. s a d c) (λ a. ltb 0 (lots_there m a d c)) m.accounts
      (λ a e. omega (arith, ks.within a d c, ltb-false 0 (lots_there m a d c) e))

  -- where s takes less than t from an account, day and class, s takes no more than t anywhere else
  same_class : (c : Class) (a d a' d' : ℕ) → s a d c < t a d c → (d ≡ d' → ⊥) → s a' d' c ≤ t a' d' c
  same_class c a d a' d' l ne =
      grind (arith, ne, ks.oldest_first c a' d' a d, kt.within a d c, kt.oldest_first c a d a' d', ks.within a' d' c)

  other_class : (c c' : Class) (a d a' d' : ℕ) → s a d c < t a d c → (c ≡ c' → ⊥) → s a' d' c' ≤ t a' d' c'
  other_class Declared Declared a d a' d' l ne = absurd (ne refl)
  other_class Declared Undeclared a d a' d' l ne = grind (arith, ks.declared_first a' d' a d, kt.within a d Declared)
  other_class Declared Virtual a d a' d' l ne = grind (arith, ks.declared_first a' d' a d, kt.within a d Declared)
  other_class Undeclared Declared a d a' d' l ne = omega (arith, kt.declared_first a d a' d' (omega arith), ks.within a' d' Declared)
  other_class Undeclared Undeclared a d a' d' l ne = absurd (ne refl)
  other_class Undeclared Virtual a d a' d' l ne = grind (arith, kt.within a d Undeclared, ks.within a' d' Virtual)
  other_class Virtual Declared a d a' d' l ne = omega (arith, kt.declared_first a d a' d' (omega arith), ks.within a' d' Declared)
  other_class Virtual Undeclared a d a' d' l ne = grind (arith, kt.within a d Virtual, ks.within a' d' Undeclared)
  other_class Virtual Virtual a d a' d' l ne = absurd (ne refl)

  elsewhere : (c c' : Class) (a d a' d' : ℕ) → s a d c < t a d c → (c ≡ c' → d ≡ d' → ⊥) → s a' d' c' ≤ t a' d' c'
  elsewhere c c' a d a' d' l ne =
      elim (class_cases c c') [
        | inl e ↦ subst (λ x. s a' d' x ≤ t a' d' x) e (same_class c a d a' d' l (ne e))
        | inr n ↦ other_class c c' a d a' d' l n
      ]

  other_group : (c c' : Class) (a d : ℕ) → s a d c < t a d c → (c ≡ c' → ⊥) → group m s c' d ≤ group m t c' d
  unfolding group
  other_group c c' a d l ne = sum_by-le-sum_by (λ x. s x d c') (λ x. t x d c') m.accounts (λ x. other_class c c' a d x d l ne)

  other_day : (c : Class) (a d d' : ℕ) → s a d c < t a d c → (d ≡ d' → ⊥) → day_total m s d' ≤ day_total m t d'
  unfolding day_total
  other_day c a d d' l ne =
      sum_by-le-sum_by (λ x. taken_on s x d') (λ x. taken_on t x d') m.accounts
      (λ x. omega (arith, elsewhere c Declared a d x d' l (λ e. ne), elsewhere c Undeclared a d x d' l (λ e. ne), elsewhere c Virtual a d x d' l (λ e. ne)))

  this_day : (c : Class) (a d : ℕ) → s a d c < t a d c → group m s c d < group m t c d → day_total m s d < day_total m t d
  this_day Declared a d l g =
      grind (arith, day_by_class m s d, day_by_class m t d, other_group Declared Undeclared a d l (λ e. cc), other_group Declared Virtual a d l (λ e. cc))
  this_day Undeclared a d l g =
      grind (arith, day_by_class m s d, day_by_class m t d, other_group Undeclared Declared a d l (λ e. cc), other_group Undeclared Virtual a d l (λ e. cc))
  this_day Virtual a d l g =
      grind (arith, day_by_class m s d, day_by_class m t d, other_group Virtual Declared a d l (λ e. cc), other_group Virtual Undeclared a d l (λ e. cc))

  -- so s takes no less than t from any class and day
  group_gap : (c : Class) (d : ℕ) → group m s c d < group m t c d → (a : ℕ) × (has a m.accounts ≡ true) × (s a d c < t a d c)
  unfolding group
  group_gap c d g = sum_gap (λ x. s x d c) (λ x. t x d c) m.accounts g

  not_less : (c : Class) (d : ℕ) → group m s c d < group m t c d → ⊥
  not_less c d g =
      let r = group_gap c d g in
      let today = this_day c r.0 d r.2 g in
      let days : (y : ℕ) → day_total m s y ≤ day_total m t y = λ y. grind (arith, nat_tests, today, cases_eq d y, other_day c r.0 d y r.2) in
      omega (
        arith,
        sum_lt (day_total m s) (day_total m t) (purchase_days m) d (there_day m r.0 d c (omega (arith, kt.within r.0 d c, r.2))) days today,
        total_by_day m s,
        total_by_day m t,
        ks.complete,
        kt.complete,
      )

module _ (share : OddLotRule) (m : Month) (s t : Selection) (ks : FiveRules share m s) (kt : FiveRules share m t) where
  same_there : (c : Class) (d : ℕ) → taken_there m s c d ≡ taken_there m t c d
  same_there c d =
      let one : group m s c d ≡ group m t c d = grind (arith, not_less share m s t ks kt c d, not_less share m t s kt ks c d) in
      there_group share m s t ks kt c d ∙ one ∙ sym (there_group share m t s kt ks c d)

  same_at : (a d : ℕ) (c : Class) → s a d c ≡ t a d c
  same_at a d c =
      elim (cases_lt 0 (lots_there m a d c)) [
        | inl p ↦
            let i : has a (holders m c d) ≡ true =
            has_kept (λ x. ltb 0 (lots_there m x d c)) m.accounts a (there_known m a d c p) (lt-ltb 0 (lots_there m a d c) p) in
            let some = has_length a (holders m c d) i in
            map_agrees (λ x. s x d c) (λ x. t x d c) (holders m c d) a
            (ks.shared c d some ∙ ap (share (map (λ x. lots_there m x d c) (holders m c d))) (same_there c d) ∙ sym (kt.shared c d some)) i
        | inr z ↦ omega (arith, ks.within a d c, kt.within a d c)
      ]

pub selection_alone : SelectionAlone
selection_alone share m s t ks kt = fun_ext (λ a. fun_ext (λ d. fun_ext (λ c. same_at share m s t ks kt a d c)))
