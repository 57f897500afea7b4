-- Sums of a function over the places of a list, and counts of a list cut at a place. Assumes nothing.
-- Lemmas alone: a law cites them, which it may only where they stand in specs/, and no contract does.
use Rattle.std.specs.Prelude.{◌≡◌, ℕ, zero, suc, ◌+◌, ◌<◌, Bool, cond, List, [], ◌∷◌, map, length, take, drop, sum_by, sum, count_by, slice_index, refl}
use Rattle.std.proofs.Common.{ap, ◌∙◌, add-one, arith}
use Rattle.std.specs.List.{range_with_len}
use Rattle.std.proofs.lemmas.List.Sums.{sum_by-cons, sum_by-take-drop, sum_by-drop_more}

-- the sum of f over the first n numbers
abbrev pub tally : (ℕ → ℕ) → ℕ → ℕ
tally f zero = 0
tally f (suc n) = f 0 + tally (λ i. f (suc i)) n

pub tally_same : (f g : ℕ → ℕ) (n : ℕ) → ((i : ℕ) → i < n → f i ≡ g i) → tally f n ≡ tally g n
tally_same f g zero h = refl
tally_same f g (suc n) h = omega (arith, h 0 (omega arith), tally_same (λ i. f (suc i)) (λ i. g (suc i)) n (λ i l. h (suc i) (omega arith)))

pub tally_add : (f g : ℕ → ℕ) (n : ℕ) → tally (λ i. f i + g i) n ≡ tally f n + tally g n
tally_add f g zero = refl
tally_add f g (suc n) = omega (arith, tally_add (λ i. f (suc i)) (λ i. g (suc i)) n)

pub tally_list : (f : ℕ → ℕ) (xs : List ℕ) → tally (λ i. f (slice_index xs i)) (length xs) ≡ sum_by f xs
tally_list f [] = refl
tally_list f (x ∷ xs) = omega (arith, sum_by-cons f x xs, tally_list f xs)

counted_shift : (f : ℕ → ℕ) (a n : ℕ) → map f (range_with_len (a + 1) n) ≡ map (λ i. f (suc i)) (range_with_len a n)
counted_shift f a zero = refl
counted_shift f a (suc n) = ap (λ z. z ∷ map f (range_with_len (a + 1 + 1) n)) (ap f (add-one a)) ∙ ap (λ zs. f (suc a) ∷ zs) (counted_shift f (a + 1) n)

pub tally_counted : (f : ℕ → ℕ) (n : ℕ) → sum (map f (range_with_len 0 n)) ≡ tally f n
tally_counted f zero = refl
tally_counted f (suc n) =
    let e : sum (map f (range_with_len (0 + 1) n)) ≡ tally (λ i. f (suc i)) n = ap sum (counted_shift f 0 n) ∙ tally_counted (λ i. f (suc i)) n in
    sum_by-cons (λ (z : ℕ). z) (f 0) (map f (range_with_len (0 + 1) n)) ∙ ap (λ z. f 0 + z) e

-- a count by the entries before a place, at it and behind it
pub count_cut : (f : ℕ → Bool) (xs : List ℕ) (i : ℕ) → i < length xs →
    count_by f xs ≡ count_by f (take i xs) + (cond (f (slice_index xs i)) 1 0 + count_by f (drop (i + 1) xs))
count_cut f xs i l = omega (arith, sum_by-take-drop (λ x. cond (f x) 1 0) xs i, sum_by-drop_more (λ x. cond (f x) 1 0) xs i 0 l)
