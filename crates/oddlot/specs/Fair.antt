-- A rule by a priority keeps the meaning of an odd-lot rule. Assumes nothing.
-- Lemmas alone: a law cites them, which it may only where they stand in specs/, and no contract does.
use Rattle.std.specs.Prelude.{◌≡◌, ℕ, ◌+◌, ◌-◌, ◌*◌, ◌/◌, ◌%◌, ◌<◌, ◌≤◌, cond, nat_lt, List, [], ◌∷◌, length, sum_by, sum, count_by, slice_index}
use Rattle.std.proofs.Common.{ap, ◌∙◌, inl, inr, add-mul, mul_comm, zero-mul, le_of_mul-le-mul_right, div-add-mod', arith}
use Rattle.std.specs.List.{AllByRecursion}
use Rattle.std.proofs.lemmas.Nat.{le-div, mod_below}
use Rattle.std.proofs.lemmas.List.FromFn.{length-map-range_with_len, get_or-map-range_with_len}
use Rattle.std.proofs.lemmas.List.Sums.{sum_by-cons, count_by-le-length}
use Rattle.std.proofs.lemmas.Bool.{cases_lt}
use Rattle.std.proofs.lemmas.Bool.Decides.{nat_tests}
use Rattle.terms.specs.OddLots.{Shareable, KeepsMeaning}
use Rattle.terms.proofs.Fill.{sum_positive}
use Rattle.oddlot.specs.Priorities.{first_by, rounded, standing, part_by, by_priority}
use Rattle.oddlot.specs.Tally.{tally_add, tally_list, tally_counted}
use Rattle.oddlot.specs.First.{ahead_least, first_tally}

-- the shares rounded down and what rounding leaves make up the whole
whole : (n t : ℕ) (lots : List ℕ) → sum_by (rounded n t) lots * t + sum_by (λ q. q * n % t) lots ≡ sum lots * n
whole n t [] = omega (arith, zero-mul t, zero-mul n)
whole n t (q ∷ qs) =
    let a : sum_by (rounded n t) (q ∷ qs) * t ≡ q * n / t * t + sum_by (rounded n t) qs * t =
    ap (λ z. z * t) (sum_by-cons (rounded n t) q qs) ∙ add-mul (q * n / t) (sum_by (rounded n t) qs) t in
    let b : sum (q ∷ qs) * n ≡ q * n + sum qs * n = ap (λ z. z * n) (sum_by-cons (λ (x : ℕ). x) q qs) ∙ add-mul q (sum qs) n in
    omega (arith, a, b, sum_by-cons (λ x. x * n % t) q qs, div-add-mod' (q * n) t, whole n t qs)

-- the shares rounded down do not pass n
pub within : (lots : List ℕ) (n : ℕ) → Shareable lots n → sum_by (rounded n (sum lots)) lots ≤ n
within lots n s =
    let e = whole n (sum lots) lots in
    le_of_mul-le-mul_right {k = sum lots} (omega (arith, e, mul_comm (sum lots) n)) (sum_positive lots s.sizes s.some)

module _ (rank : ℕ → ℕ → ℕ) (broken : (lots remainder : ℕ) → 1 ≤ lots → 1 ≤ remainder → 1 ≤ rank lots remainder) where
  -- what rounding leaves is less than t for each entry with a priority, and nothing for the others
  leaves : (n t : ℕ) → 0 < t → (lots : List ℕ) → AllByRecursion (λ q. (1 ≤ q) × (q ≤ 100000)) lots →
      sum_by (λ q. q * n % t) lots ≤ count_by (λ q. nat_lt 0 (standing rank n t q)) lots * t
  leaves n t p [] h = omega (arith, zero-mul t)
  leaves n t p (q ∷ qs) h =
      let some : ℕ = cond (nat_lt 0 (standing rank n t q)) 1 0 in
      let rest : ℕ = count_by (λ x. nat_lt 0 (standing rank n t x)) qs in
      let c : count_by (λ x. nat_lt 0 (standing rank n t x)) (q ∷ qs) * t ≡ some * t + rest * t =
      ap (λ z. z * t) (sum_by-cons (λ x. cond (nat_lt 0 (standing rank n t x)) 1 0) q qs) ∙ add-mul some rest t in
      let own : q * n % t ≤ some * t =
      elim (cases_lt 0 (q * n % t)) [
        | inl k ↦ let one : some ≡ 1 = grind (arith, nat_tests, broken q (q * n % t) h.0.0 k) in omega (arith, ap (λ z. z * t) one, mod_below (q * n) t p)
        | inr k ↦ omega arith
      ] in
      omega (arith, sum_by-cons (λ x. x * n % t) q qs, leaves n t p qs h.1)

  module _ (none : (lots : ℕ) → rank lots 0 ≡ 0) (lots : List ℕ) (n : ℕ) (s : Shareable lots n) where
    pos : 0 < sum lots
    pos = sum_positive lots s.sizes s.some

    -- no more lots are left than entries have a priority
    left_few : n - sum_by (rounded n (sum lots)) lots ≤ count_by (λ q. nat_lt 0 (standing rank n (sum lots) q)) lots
    left_few =
        let left = n - sum_by (rounded n (sum lots)) lots in
        let e = whole n (sum lots) lots in
        let w = within lots n s in
        let k : n ≡ sum_by (rounded n (sum lots)) lots + left = omega arith in
        let m : n * sum lots ≡ sum_by (rounded n (sum lots)) lots * sum lots + left * sum lots =
        ap (λ z. z * sum lots) k ∙ add-mul (sum_by (rounded n (sum lots)) lots) left (sum lots) in
        le_of_mul-le-mul_right {k = sum lots} (omega (arith, e, m, mul_comm (sum lots) n, leaves n (sum lots) pos lots s.sizes)) pos

    parts_total : sum (by_priority rank lots n) ≡ n
    parts_total =
        let p = standing rank n (sum lots) in
        let left = n - sum_by (rounded n (sum lots)) lots in
        let f = first_tally p lots left (omega (arith, left_few, count_by-le-length (λ q. nat_lt 0 (p q)) lots)) in
        let g = tally_list (rounded n (sum lots)) lots in
        let a = tally_add (λ i. rounded n (sum lots) (slice_index lots i)) (first_by p left lots) (length lots) in
        let c = tally_counted (part_by rank n lots) (length lots) in
        let w = within lots n s in
        omega (arith, c, a, f, g)

    part_at : (i : ℕ) → i < length lots → slice_index (by_priority rank lots n) i ≡ part_by rank n lots i
    part_at i l = get_or-map-range_with_len (part_by rank n lots) 0 (length lots) i i 0 l (omega arith)

    part_most : (i : ℕ) → i < length lots → part_by rank n lots i ≤ (slice_index lots i * n + (sum lots - 1)) / sum lots
    part_most i l =
        let q = slice_index lots i in
        let t = sum lots in
        let whole_share : q * n / t ≤ (q * n + (t - 1)) / t = le-div (q * n / t) (q * n + (t - 1)) t pos (omega (arith, div-add-mod' (q * n) t)) in
        elim (cases_lt 0 (q * n % t)) [
          | inl k ↦
              let one_more : q * n / t + 1 ≤ (q * n + (t - 1)) / t =
              le-div (q * n / t + 1) (q * n + (t - 1)) t pos (omega (arith, div-add-mod' (q * n) t, add-mul (q * n / t) 1 t)) in
              grind (arith, nat_tests)
          | inr k ↦
              let no_rank : standing rank n t q ≡ 0 = ap (rank q) (omega arith) ∙ none q in
              grind (arith, nat_tests, left_few, ahead_least (standing rank n t) 0 lots i l (omega arith))
        ]

pub priority_keeps : (rank : ℕ → ℕ → ℕ) → ((lots : ℕ) → rank lots 0 ≡ 0) → ((lots remainder : ℕ) → 1 ≤ lots → 1 ≤ remainder → 1 ≤ rank lots remainder) →
    KeepsMeaning (by_priority rank)
priority_keeps rank none broken lots n s = record {
  as_many = length-map-range_with_len (part_by rank n lots) 0 (length lots);
  total = parts_total rank broken none lots n s;
  at_least = λ i l. omega (arith, part_at rank broken none lots n s i l);
  at_most = λ i l. omega (arith, part_at rank broken none lots n s i l, part_most rank broken none lots n s i l);
}
