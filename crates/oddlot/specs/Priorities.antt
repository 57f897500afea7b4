-- The first entries of a list by a priority, and the rules that give one lot more to them. Assumes nothing.
use Rattle.std.specs.Prelude.{◌≡◌, ℕ, ◌+◌, ◌-◌, ◌*◌, ◌/◌, ◌%◌, ◌≤◌, cond, nat_lt, List, map, length, take, drop, sum_by, sum, count_by, nat_le, slice_index}
use Rattle.std.specs.List.{range_with_len}
use Rattle.terms.specs.OddLots.{OddLotRule}

-- How many entries stand ahead of the one at place i: those before it with at least its priority, and those behind it with more.
abbrev pub ahead : (ℕ → ℕ) → List ℕ → ℕ → ℕ
ahead p xs i = count_by (λ x. nat_le (p (slice_index xs i)) (p x)) (take i xs) + count_by (λ x. nat_lt (p (slice_index xs i)) (p x)) (drop (i + 1) xs)

-- 1 for the entry at place i if it is among the first r by a priority, else 0.
abbrev pub first_by : (ℕ → ℕ) → ℕ → List ℕ → ℕ → ℕ
first_by p r xs i = cond (nat_lt (ahead p xs i) r) 1 0

-- The first r of a list are r entries.
abbrev pub FirstCount : Type 0
FirstCount = (p : ℕ → ℕ) (r : ℕ) (xs : List ℕ) → r ≤ length xs → sum (map (first_by p r xs) (range_with_len 0 (length xs))) ≡ r

-- The share of q lots in n of t, rounded down.
abbrev pub rounded : ℕ → ℕ → ℕ → ℕ
rounded n t q = q * n / t

-- The priority of q lots: by the lots, and by what rounding their share down leaves.
abbrev pub standing : (ℕ → ℕ → ℕ) → ℕ → ℕ → ℕ → ℕ
standing rank n t q = rank q (q * n % t)

-- The part of the entry at place i: its share rounded down, and one lot more if it is among the first by priority, as many as rounding left over.
abbrev pub part_by : (ℕ → ℕ → ℕ) → ℕ → List ℕ → ℕ → ℕ
part_by rank n lots i = rounded n (sum lots) (slice_index lots i) + first_by (standing rank n (sum lots)) (n - sum_by (rounded n (sum lots)) lots) lots i

-- The rule that rounds every share down and gives the lots left over by a priority.
abbrev pub by_priority : (ℕ → ℕ → ℕ) → OddLotRule
by_priority rank lots n = map (part_by rank n lots) (range_with_len 0 (length lots))

-- The largest remainder first.
abbrev pub largest_remainder : ℕ → ℕ → ℕ
largest_remainder q remainder = remainder
