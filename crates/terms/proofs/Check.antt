-- A test that computes, for the rows of a draw on a month that is written out: where it passes, the rows' selection keeps the five rules.
-- Assumes nothing.
use Rattle.std.proofs.Common.{◌≡◌, ℕ, ◌+◌, ◌<◌, ◌≤◌, Bool, true, not, ◌&&◌, ◌||◌, eqb, ltb, leb, List, [], ◌∷◌, map, length, sum_by, filter, inl, inr, arith}
use Rattle.std.proofs.lemmas.List.Sums.{sum_by-cons}
use Rattle.std.proofs.lemmas.Bool.{cases_Bool, ltb-true, or_cases, false≢true}
use Rattle.std.proofs.lemmas.Bool.Decides.{nat_tests}
use Rattle.std.specs.List.{list_all}
use Rattle.std.specs.Str.{bytes_eq as same_list}
use Rattle.std.proofs.lemmas.Slice.Eq.{bytes_eq-Decides}
use Rattle.terms.specs.Month.{Month, has, lots_there, holders, purchase_days, effective_sale}
use Rattle.terms.specs.OddLots.{OddLotRule}
use Rattle.terms.specs.Selection.{Selection, FiveRules, told_by, told, taken_from, taken_there}
use Rattle.terms.specs.declared.rows.Class.{Class}
use Rattle.terms.specs.declared.rows.Class.TheVariants.{Declared, Undeclared, Virtual}
use Rattle.terms.specs.declared.rows.Row.{Row}
use Rattle.terms.specs.declared.rows.Row.TheVariants.{ClassLots, Leg, Refused}
use Rattle.terms.proofs.Alone.{there_known, there_day}

-- a test of each number of a list, at one of them
all_has : (p : ℕ → Bool) (xs : List ℕ) (x : ℕ) → list_all p xs ≡ true → has x xs ≡ true → p x ≡ true
all_has p [] x h i = absurd (false≢true i)
all_has p (y ∷ ys) x h i = grind (arith, nat_tests, all_has p ys x)

-- a test of each class
abbrev pub classes : (Class → Bool) → Bool
classes p = p Declared && (p Undeclared && p Virtual)

classes_at : (p : Class → Bool) → classes p ≡ true → (c : Class) → p c ≡ true
classes_at p h Declared = grind arith
classes_at p h Undeclared = grind arith
classes_at p h Virtual = grind arith

-- the rows name accounts and days of the month
abbrev pub inside : Month → List Row → Bool
inside m [] = true
inside m (ClassLots c a d n ∷ rows) = (has a m.accounts && has d (purchase_days m)) && inside m rows
inside m (Leg s b n bond ∷ rows) = inside m rows
inside m (Refused k ∷ rows) = inside m rows

told_inside : (m : Month) (rows : List Row) (a d : ℕ) (c : Class) → inside m rows ≡ true → 0 < told rows a d c →
    (has a m.accounts ≡ true) × (has d (purchase_days m) ≡ true)
told_inside m [] a d c h l = absurd (omega arith)
told_inside m (Leg s b n bond ∷ rows) a d c h l = told_inside m rows a d c h l
told_inside m (Refused k ∷ rows) a d c h l = told_inside m rows a d c h l
told_inside m (ClassLots c' a' d' n ∷ rows) a d c h l =
    grind (arith, nat_tests, sum_by-cons (λ (r : Row). told_by r a d c) (ClassLots c' a' d' n) rows, told_inside m rows a d c)

-- some number passes where a filter keeps any
kept_some : (p : ℕ → Bool) (xs : List ℕ) → 0 < length (filter p xs) → (x : ℕ) × (p x ≡ true)
kept_some p [] h = absurd (omega arith)
kept_some p (y ∷ ys) h =
    elim (cases_Bool (p y)) [ inl e ↦ (y, e) | inr e ↦ kept_some p ys (grind arith) ]

-- the tests of the rules, one by one
module _ (share : OddLotRule) (m : Month) (sel : Selection) where
  abbrev pub everywhere : (ℕ → ℕ → Bool) → Bool
  everywhere p = list_all (λ a. list_all (λ d. p a d) (purchase_days m)) m.accounts

  abbrev pub within_ok : Class → Bool
  within_ok c = everywhere (λ a d. leb (sel a d c) (lots_there m a d c))

  abbrev pub all_taken : Class → Bool
  all_taken c = everywhere (λ a d. leb (lots_there m a d c) (sel a d c))

  abbrev pub none_other : Bool
  none_other = everywhere (λ a d. eqb (sel a d Undeclared + sel a d Virtual) 0)

  abbrev pub older_taken : Class → ℕ → Bool
  older_taken c d = everywhere (λ a' d'. not (ltb d' d) || leb (lots_there m a' d' c) (sel a' d' c))

  abbrev pub oldest_ok : Class → Bool
  oldest_ok c = everywhere (λ a d. eqb (sel a d c) 0 || older_taken c d)

  abbrev pub shared_ok : Class → Bool
  shared_ok c = list_all (λ d. not (ltb 0 (length (holders m c d))) ||
      same_list (map (λ a. sel a d c) (holders m c d)) (share (map (λ a. lots_there m a d c) (holders m c d)) (taken_there m sel c d))) (purchase_days m)

  everywhere_at : (p : ℕ → ℕ → Bool) (a d : ℕ) → everywhere p ≡ true → has a m.accounts ≡ true → has d (purchase_days m) ≡ true → p a d ≡ true
  everywhere_at p a d h i j = all_has (λ y. p a y) (purchase_days m) d (all_has (λ x. list_all (λ y. p x y) (purchase_days m)) m.accounts a h i) j

  -- what is tested wherever there are lots holds everywhere
  taken_at : (a d : ℕ) (c : Class) → (0 < lots_there m a d c → leb (lots_there m a d c) (sel a d c) ≡ true) → lots_there m a d c ≤ sel a d c
  taken_at a d c h = grind (arith, nat_tests, h)

  module _ (in-month : (a d : ℕ) (c : Class) → 0 < sel a d c → (has a m.accounts ≡ true) × (has d (purchase_days m) ≡ true)) where
    within_at : classes within_ok ≡ true → (a d : ℕ) (c : Class) → sel a d c ≤ lots_there m a d c
    within_at h a d c =
        grind (
          arith,
          nat_tests,
          in-month a d c,
          everywhere_at (λ x y. leb (sel x y c) (lots_there m x y c)) a d (classes_at within_ok h c),
        )

    other_in : (a d : ℕ) → 0 < sel a d Undeclared + sel a d Virtual → (has a m.accounts ≡ true) × (has d (purchase_days m) ≡ true)
    other_in a d l = grind (arith, in-month a d Undeclared, in-month a d Virtual)

    declared_at : (none_other || all_taken Declared) ≡ true → (a d a' d' : ℕ) → 0 < sel a d Undeclared + sel a d Virtual →
        lots_there m a' d' Declared ≤ sel a' d' Declared
    declared_at h a d a' d' l =
        elim (or_cases none_other (all_taken Declared) h) [
          | inl none ↦
              grind (
                arith,
                nat_tests,
                other_in a d l,
                everywhere_at (λ x y. eqb (sel x y Undeclared + sel x y Virtual) 0) a d none,
              )
          | inr taken ↦ taken_at a' d' Declared (λ k.
              everywhere_at (λ x y. leb (lots_there m x y Declared) (sel x y Declared)) a' d' taken (there_known m a' d' Declared k) (there_day m a' d' Declared k))
        ]

    oldest_at : classes oldest_ok ≡ true → (c : Class) (a d a' d' : ℕ) → d' < d → 0 < sel a d c → lots_there m a' d' c ≤ sel a' d' c
    oldest_at h c a d a' d' older l =
        let i = in-month a d c l in
        let taken : older_taken c d ≡ true =
        grind (arith, nat_tests, everywhere_at (λ x y. eqb (sel x y c) 0 || older_taken c y) a d (classes_at oldest_ok h c) i.0 i.1) in
        taken_at a' d' c (λ k.
        grind (
          arith,
          nat_tests,
          everywhere_at (λ x y. not (ltb y d) || leb (lots_there m x y c) (sel x y c)) a' d' taken (there_known m a' d' c k) (there_day m a' d' c k),
        ))

    shared_at : classes shared_ok ≡ true → (c : Class) (d : ℕ) → 0 < length (holders m c d) →
        map (λ a. sel a d c) (holders m c d) ≡ share (map (λ a. lots_there m a d c) (holders m c d)) (taken_there m sel c d)
    shared_at h c d l =
        let r = kept_some (λ a. ltb 0 (lots_there m a d c)) m.accounts l in
        let day = there_day m r.0 d c (ltb-true 0 (lots_there m r.0 d c) r.1) in
        grind (
          arith,
          nat_tests,
          bytes_eq-Decides (map (λ a. sel a d c) (holders m c d)) (share (map (λ a. lots_there m a d c) (holders m c d)) (taken_there m sel c d)),
          all_has (λ y. not (ltb 0 (length (holders m c y))) ||
              same_list (map (λ a. sel a y c) (holders m c y)) (share (map (λ a. lots_there m a y c) (holders m c y)) (taken_there m sel c y)))
              (purchase_days m) d (classes_at shared_ok h c) day,
        )

-- the five rules from the tests
pub five_rules : (share : OddLotRule) (m : Month) (rows : List Row) →
    inside m rows ≡ true →
    classes (within_ok share m (told rows)) ≡ true →
    sum_by (taken_from m (told rows)) m.accounts ≡ sum_by (effective_sale m) m.accounts →
    (none_other share m (told rows) || all_taken share m (told rows) Declared) ≡ true →
    classes (oldest_ok share m (told rows)) ≡ true →
    classes (shared_ok share m (told rows)) ≡ true →
    FiveRules share m (told rows)
five_rules share m rows i w s d o p =
    let in-month : (a d : ℕ) (c : Class) → 0 < told rows a d c → (has a m.accounts ≡ true) × (has d (purchase_days m) ≡ true)
    = λ a d c l. told_inside m rows a d c i l in
    record {
      within = within_at share m (told rows) in-month w;
      complete = s;
      declared_first = declared_at share m (told rows) in-month d;
      oldest_first = oldest_at share m (told rows) in-month o;
      shared = shared_at share m (told rows) in-month p;
    }
