-- The first entries of a list by a priority: how many there are, and that an entry of no priority is none of them while others are left. Assumes nothing.
-- Lemmas alone: a law cites them, which it may only where they stand in specs/, and no contract does.
use Rattle.std.specs.Prelude.{◌≡◌, ℕ, suc, ◌+◌, ◌-◌, ◌<◌, ◌≤◌, cond, nat_lt, nat_le, List, [], ◌∷◌, length, take, drop, count_by, slice_index}
use Rattle.std.proofs.Common.{ap, ◌∙◌, inl, inr, arith}
use Rattle.std.proofs.lemmas.List.Sums.{sum_by-cons, sum_by-le-sum_by, count_by-le-length}
use Rattle.std.proofs.lemmas.Bool.{cases_lt}
use Rattle.std.proofs.lemmas.Bool.Decides.{nat_tests}
use Rattle.oddlot.specs.Priorities.{ahead, first_by, FirstCount}
use Rattle.oddlot.specs.Tally.{tally, tally_same, tally_counted, count_cut}

module _ (p : ℕ → ℕ) where
  -- all entries of a higher priority than v stand ahead of an entry of at most v
  pub ahead_least : (v : ℕ) (xs : List ℕ) (i : ℕ) → i < length xs → p (slice_index xs i) ≤ v → count_by (λ x. nat_lt v (p x)) xs ≤ ahead p xs i
  ahead_least v xs i l h =
      let own = p (slice_index xs i) in
      let before = sum_by-le-sum_by (λ x. cond (nat_lt v (p x)) 1 0) (λ x. cond (nat_le own (p x)) 1 0) (take i xs) (λ x. grind (arith, nat_tests)) in
      let behind = sum_by-le-sum_by (λ x. cond (nat_lt v (p x)) 1 0) (λ x. cond (nat_lt own (p x)) 1 0) (drop (i + 1) xs) (λ x. grind (arith, nat_tests)) in
      grind (arith, nat_tests, count_cut (λ x. nat_lt v (p x)) xs i l)

  -- fewer than these stand ahead of an entry of more than v
  ahead_most : (v : ℕ) (xs : List ℕ) (i : ℕ) → i < length xs → v < p (slice_index xs i) → ahead p xs i < count_by (λ x. nat_lt v (p x)) xs
  ahead_most v xs i l h =
      let own = p (slice_index xs i) in
      let before = sum_by-le-sum_by (λ x. cond (nat_le own (p x)) 1 0) (λ x. cond (nat_lt v (p x)) 1 0) (take i xs) (λ x. grind (arith, nat_tests)) in
      let behind = sum_by-le-sum_by (λ x. cond (nat_lt own (p x)) 1 0) (λ x. cond (nat_lt v (p x)) 1 0) (drop (i + 1) xs) (λ x. grind (arith, nat_tests)) in
      grind (arith, nat_tests, count_cut (λ x. nat_lt v (p x)) xs i l)

  -- an entry in front of the list stands ahead of those of at most its priority
  ahead_suc : (x : ℕ) (xs : List ℕ) (i : ℕ) → ahead p (x ∷ xs) (suc i) ≡ cond (nat_le (p (slice_index xs i)) (p x)) 1 0 + ahead p xs i
  ahead_suc x xs i =
      let own = p (slice_index xs i) in
      let e : suc i + 1 ≡ suc (i + 1) = omega arith in
      let d : count_by (λ y. nat_lt own (p y)) (drop (suc i + 1) (x ∷ xs)) ≡ count_by (λ y. nat_lt own (p y)) (drop (i + 1) xs) = ap (λ z. count_by (λ y. nat_lt own (p y)) (drop z (x ∷ xs))) e in
      omega (arith, sum_by-cons (λ y. cond (nat_le own (p y)) 1 0) x (take i xs), d)

  -- while others are left, an entry in front that is none of the first changes nothing
  step_few : (x : ℕ) (xs : List ℕ) (r i : ℕ) → i < length xs → r ≤ count_by (λ y. nat_lt (p x) (p y)) xs → first_by p r (x ∷ xs) (suc i) ≡ first_by p r xs i
  step_few x xs r i l h = grind (arith, nat_tests, ahead_suc x xs i, ahead_least (p x) xs i l)

  -- one that is among them leaves one place less
  step_many : (x : ℕ) (xs : List ℕ) (r i : ℕ) → i < length xs → count_by (λ y. nat_lt (p x) (p y)) xs < r → first_by p r (x ∷ xs) (suc i) ≡ first_by p (r - 1) xs i
  step_many x xs r i l h = grind (arith, nat_tests, ahead_suc x xs i, ahead_most (p x) xs i l)

  pub first_tally : (xs : List ℕ) (r : ℕ) → r ≤ length xs → tally (first_by p r xs) (length xs) ≡ r
  first_tally [] r h = omega arith
  first_tally (x ∷ xs) r h =
      let few = count_by-le-length (λ y. nat_lt (p x) (p y)) xs in
      elim (cases_lt (count_by (λ y. nat_lt (p x) (p y)) xs) r) [
        | inl k ↦
            let e = tally_same (λ i. first_by p r (x ∷ xs) (suc i)) (first_by p (r - 1) xs) (length xs) (λ i l. step_many x xs r i l k) in
            let f = first_tally xs (r - 1) (omega arith) in
            grind (arith, nat_tests)
        | inr k ↦
            let e = tally_same (λ i. first_by p r (x ∷ xs) (suc i)) (first_by p r xs) (length xs) (λ i l. step_few x xs r i l k) in
            let f = first_tally xs r (omega arith) in
            grind (arith, nat_tests)
      ]

pub first_count : FirstCount
first_count p r xs h = tally_counted (first_by p r xs) (length xs) ∙ first_tally p xs r h
