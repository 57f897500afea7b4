-- Lists that rise: what a test of neighbours tells, and what holds at the places under a total order. Assumes nothing.
use native.Mathlib.Numerals.{unary_clauses}
use Rattle.std.proofs.Common.{◌≡◌, ℕ, zero, suc, ◌<◌, Bool, true, false, List, [], ◌∷◌, length, get_or, sym, refl, inl, inr, arith}
use Rattle.std.proofs.lemmas.Bool.{cases_lt, and_parts, and_from, and_left, and_right}
use Rattle.std.specs.List.{IsAllAdjacentAnswer}
use Rattle.std.specs.List.Sorted.{IsPartitionedBy}
use Rattle.register.specs.Orders.{TotalOrder, climbs}

module _ {K : Type 0} (before : K → K → Bool) where
  -- each key is before the next
  climbs_if : (ks : List K) (d : K) → ((i : ℕ) → suc i < length ks → before (get_or ks i d) (get_or ks (suc i) d) ≡ true) → climbs before ks ≡ true
  climbs_if [] d h = refl
  climbs_if (k ∷ []) d h = refl
  climbs_if (k ∷ x ∷ xs) d h = and_from (before k x) (climbs before (x ∷ xs)) (h 0 (omega arith)) (climbs_if (x ∷ xs) d (λ i l. h (suc i) (omega arith)))

  -- one is not
  climbs_not : (ks : List K) (i : ℕ) (d : K) → suc i < length ks → before (get_or ks i d) (get_or ks (suc i) d) ≡ false → climbs before ks ≡ false
  climbs_not [] i d l h = absurd (omega arith)
  climbs_not (k ∷ []) i d l h = absurd (omega arith)
  climbs_not (k ∷ x ∷ xs) zero d l h = and_left (before k x) (climbs before (x ∷ xs)) h
  climbs_not (k ∷ x ∷ xs) (suc i) d l h = and_right (before k x) (climbs before (x ∷ xs)) (climbs_not (x ∷ xs) i d (omega arith) h)

  -- what a test of all neighbours answers
  pub climbs_told : (ks : List K) (r : Bool) → IsAllAdjacentAnswer (λ x y b. b ≡ before x y) ks r → r ≡ climbs before ks
  climbs_told [] true h = refl
  climbs_told (k ∷ ks) true h = sym (climbs_if (k ∷ ks) k (λ i l. sym (simp unary_clauses at h i k (omega arith))))
  climbs_told [] false h = absurd (omega (arith, h.1))
  climbs_told (k ∷ ks) false h = sym (climbs_not (k ∷ ks) h.0 k (omega (arith, h.1)) (sym (simp unary_clauses at h.2 k)))

module _ {K : Type 0} (before : K → K → Bool) (order : TotalOrder before) where
  -- of two places the lower has the key that is before
  pub rising_places : (ks : List K) (i j : ℕ) (d : K) → climbs before ks ≡ true → i < j → j < length ks → before (get_or ks i d) (get_or ks j d) ≡ true
  rising_places [] i j d h l m = absurd (omega arith)
  rising_places (k ∷ []) i j d h l m = absurd (omega arith)
  rising_places (k ∷ x ∷ xs) i zero d h l m = absurd (omega arith)
  rising_places (k ∷ x ∷ xs) zero (suc zero) d h l m = (and_parts (before k x) (climbs before (x ∷ xs)) h).0
  rising_places (k ∷ x ∷ xs) zero (suc (suc j)) d h l m =
      let p = and_parts (before k x) (climbs before (x ∷ xs)) h in
      order.transitive k x (get_or xs j d) p.0 (rising_places (x ∷ xs) 0 (suc j) d p.1 (omega arith) (omega arith))
  rising_places (k ∷ x ∷ xs) (suc i) (suc j) d h l m =
      rising_places (x ∷ xs) i j d (and_parts (before k x) (climbs before (x ∷ xs)) h).1 (omega arith) (omega arith)

  -- the keys before another one stand first
  pub rising_parted : (ks : List K) (key : K) → climbs before ks ≡ true → IsPartitionedBy (λ k. before k key) ks
  rising_parted ks key h i j d le l t =
      elim (cases_lt i j) [
        | inl less ↦ order.transitive (get_or ks i d) (get_or ks j d) key (rising_places ks i j d h less l) t
        | inr more ↦ grind arith
      ]
