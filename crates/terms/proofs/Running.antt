-- The running rule keeps the meaning of an odd-lot rule. Assumes nothing.
use Rattle.std.proofs.Common.{◌≡◌, ℕ, zero, suc, ◌+◌, ◌-◌, ◌*◌, ◌/◌, ◌<◌, ◌≤◌, List, [], ◌∷◌, length, get_or, sum, refl, ap, ◌∙◌, add-mul, div-add-mod', zero-add, zero-mul, div-mul-le_self, arith}
use native.Mathlib.Nat.{zero-div, mul-div_cancel_left}
use Rattle.std.proofs.lemmas.Nat.{div_below, le-div, mod_below}
use Rattle.std.proofs.lemmas.List.Sums.{sum_by-cons}
use Rattle.terms.specs.OddLots.{KeepsMeaning, running, running_from}
use Rattle.terms.proofs.Fill.{sum_positive}

-- quotients of a sum
floor_add : (x y t : ℕ) → 0 < t → x / t + y / t ≤ (x + y) / t
floor_add x y t p = le-div (x / t + y / t) (x + y) t p (omega (arith, add-mul (x / t) (y / t) t, div-mul-le_self x t, div-mul-le_self y t))

ceil_add : (x y t : ℕ) → 0 < t → (x + y) / t ≤ x / t + (y + (t - 1)) / t
ceil_add x y t p =
    let u = (y + (t - 1)) / t in
    let s : x + y < (x / t + u + 1) * t =
    omega (arith, add-mul (x / t + u) 1 t, add-mul (x / t) u t, div-add-mod' x t, mod_below x t p, div-add-mod' (y + (t - 1)) t, mod_below (y + (t - 1)) t p) in
    omega (arith, div_below (x + y) t (x / t + u + 1) p s)

module _ (n t : ℕ) (p : 0 < t) where
  split : (b q : ℕ) → ((b + q) * n) / t ≡ (b * n + q * n) / t
  split b q = ap (λ z. z / t) (add-mul b q n)

  step_least : (b q : ℕ) → (q * n) / t ≤ (b + q) * n / t - b * n / t
  step_least b q = omega (arith, split b q, floor_add (b * n) (q * n) t p)

  step_most : (b q : ℕ) → (b + q) * n / t - b * n / t ≤ (q * n + (t - 1)) / t
  step_most b q = omega (arith, split b q, ceil_add (b * n) (q * n) t p)

  run_length : (b : ℕ) (qs : List ℕ) → length (running_from n t b qs) ≡ length qs
  run_length b [] = refl
  run_length b (q ∷ qs) = ap suc (run_length (b + q) qs)

  run_total : (b : ℕ) (qs : List ℕ) → sum (running_from n t b qs) + b * n / t ≡ (b + sum qs) * n / t
  run_total b [] = zero-add (b * n / t) ∙ ap (λ z. z * n / t) (omega arith)
  run_total b (q ∷ qs) =
      let e : (b + sum (q ∷ qs)) * n / t ≡ ((b + q) + sum qs) * n / t = ap (λ z. z * n / t) (omega (arith, sum_by-cons (λ (x : ℕ). x) q qs)) in
      omega (
        arith,
        e,
        run_total (b + q) qs,
        split b q,
        floor_add (b * n) (q * n) t p,
        sum_by-cons (λ (x : ℕ). x) ((b + q) * n / t - b * n / t) (running_from n t (b + q) qs),
      )

  run_least : (b : ℕ) (qs : List ℕ) (i : ℕ) → i < length qs → (get_or qs i 0 * n) / t ≤ get_or (running_from n t b qs) i 0
  run_least b [] i l = absurd (omega arith)
  run_least b (q ∷ qs) zero l = step_least b q
  run_least b (q ∷ qs) (suc i) l = run_least (b + q) qs i (omega arith)

  run_most : (b : ℕ) (qs : List ℕ) (i : ℕ) → i < length qs → get_or (running_from n t b qs) i 0 ≤ (get_or qs i 0 * n + (t - 1)) / t
  run_most b [] i l = absurd (omega arith)
  run_most b (q ∷ qs) zero l = step_most b q
  run_most b (q ∷ qs) (suc i) l = run_most (b + q) qs i (omega arith)

pub running_keeps : KeepsMeaning running
running_keeps lots n s =
    let p = sum_positive lots s.sizes s.some in
    let all : (0 + sum lots) * n / sum lots ≡ n = ap (λ z. z * n / sum lots) (zero-add (sum lots)) ∙ mul-div_cancel_left n p in
    let none : 0 * n / sum lots ≡ 0 = ap (λ z. z / sum lots) (zero-mul n) ∙ zero-div (sum lots) in
    record {
      as_many = run_length n (sum lots) p 0 lots;
      total = omega (arith, run_total n (sum lots) p 0 lots, all, none);
      at_least = run_least n (sum lots) p 0 lots;
      at_most = run_most n (sum lots) p 0 lots;
    }
