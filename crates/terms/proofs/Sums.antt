-- Sums over lists of numbers, and the numbers that a list has. Assumes nothing.
use Rattle.std.proofs.Common.{◌≡◌, ℕ, ◌+◌, ◌<◌, ◌≤◌, Bool, true, false, ◌⊎◌, List, [], ◌∷◌, map, length, sum_by, filter, sym, refl, ap, ◌∙◌, inl, inr, arith}
use mathlib.Core.Path.{fun_ext}
use Rattle.std.proofs.lemmas.List.Sums.{sum_by-cons, sum_by-le-sum_by, sum_by-append}
use Rattle.std.proofs.lemmas.Bool.{cases_lt, false≢true}
use Rattle.std.proofs.lemmas.Bool.Decides.{nat_tests}
use Rattle.std.proofs.lemmas.List.{nil_from_length}
use Rattle.std.specs.List.{flat_map}
use Rattle.terms.specs.Month.{has}

pub has_here : (x : ℕ) (xs : List ℕ) → has x (x ∷ xs) ≡ true
has_here x xs = grind (arith, nat_tests)

pub has_there : (x y : ℕ) (xs : List ℕ) → has x xs ≡ true → has x (y ∷ xs) ≡ true
has_there x y xs h = grind (arith, nat_tests)

pub has_cases : (x y : ℕ) (xs : List ℕ) → has x (y ∷ xs) ≡ true → (y ≡ x) ⊎ (has x xs ≡ true)
has_cases x y xs h = grind (arith, nat_tests)

pub has_length : (x : ℕ) (xs : List ℕ) → has x xs ≡ true → 0 < length xs
has_length x [] h = absurd (false≢true h)
has_length x (y ∷ ys) h = omega arith

pub sum_lt : (f g : ℕ → ℕ) (xs : List ℕ) (x : ℕ) → has x xs ≡ true → ((y : ℕ) → f y ≤ g y) → f x < g x → sum_by f xs < sum_by g xs
sum_lt f g [] x i h l = absurd (false≢true i)
sum_lt f g (y ∷ ys) x i h l = grind (arith, nat_tests, sum_by-cons f y ys, sum_by-cons g y ys, h y, sum_by-le-sum_by f g ys h, sum_lt f g ys x)

-- where one sum is smaller, some term is
pub sum_gap : (f g : ℕ → ℕ) (xs : List ℕ) → sum_by f xs < sum_by g xs → (x : ℕ) × (has x xs ≡ true) × (f x < g x)
sum_gap f g [] h = absurd (omega arith)
sum_gap f g (x ∷ xs) h =
    elim (cases_lt (f x) (g x)) [
      | inl l ↦ (x, has_here x xs, l)
      | inr k ↦ let r = sum_gap f g xs (omega (arith, sum_by-cons f x xs, sum_by-cons g x xs)) in (r.0, has_there r.0 x xs r.1, r.2)
    ]

pub sum_add : (f g : ℕ → ℕ) (xs : List ℕ) → sum_by (λ x. f x + g x) xs ≡ sum_by f xs + sum_by g xs
sum_add f g [] = refl
sum_add f g (x ∷ xs) = omega (arith, sum_by-cons f x xs, sum_by-cons g x xs, sum_by-cons (λ y. f y + g y) x xs, sum_add f g xs)

pub sum_zero : (xs : List ℕ) → sum_by (λ (x : ℕ). 0) xs ≡ 0
sum_zero [] = refl
sum_zero (x ∷ xs) = sum_zero xs

pub sum_empty : {A : Type 0} (w : A → ℕ) (xs : List A) → length xs ≤ 0 → sum_by w xs ≡ 0
sum_empty w xs h = ap (sum_by w) (nil_from_length xs (omega arith))

pub sum_same : (f g : ℕ → ℕ) (xs : List ℕ) → ((x : ℕ) → f x ≡ g x) → sum_by f xs ≡ sum_by g xs
sum_same f g xs h = ap (λ (k : ℕ → ℕ). sum_by k xs) (fun_ext h)

pub sum_swap : (f : ℕ → ℕ → ℕ) (xs ys : List ℕ) → sum_by (λ x. sum_by (f x) ys) xs ≡ sum_by (λ y. sum_by (λ x. f x y) xs) ys
sum_swap f [] ys = sym (sum_zero ys)
sum_swap f (x ∷ xs) ys =
    simp sum_by-cons (ap (λ n. sum_by (f x) ys + n) (sum_swap f xs ys) ∙ sym (sum_add (f x) (λ y. sum_by (λ z. f z y) xs) ys))

-- the sum over lists that stand one behind the other
pub sum_listed : {A : Type 0} (w : A → ℕ) (f : ℕ → List A) (xs : List ℕ) → sum_by w (flat_map f xs) ≡ sum_by (λ x. sum_by w (f x)) xs
sum_listed w f [] = refl
sum_listed w f (x ∷ xs) = omega (arith, sum_by-append w (f x) (flat_map f xs), sum_by-cons (λ y. sum_by w (f y)) x xs, sum_listed w f xs)

-- what a filter leaves out adds nothing
pub sum_kept : (f : ℕ → ℕ) (p : ℕ → Bool) (xs : List ℕ) → ((x : ℕ) → p x ≡ false → f x ≡ 0) → sum_by f (filter p xs) ≡ sum_by f xs
sum_kept f p [] h = refl
sum_kept f p (x ∷ xs) h = grind (arith, sum_by-cons f x xs, sum_by-cons f x (filter p xs), sum_kept f p xs h, h x)

pub has_kept : (p : ℕ → Bool) (xs : List ℕ) (x : ℕ) → has x xs ≡ true → p x ≡ true → has x (filter p xs) ≡ true
has_kept p [] x h k = h
has_kept p (y ∷ ys) x h k = grind (arith, nat_tests, has_kept p ys x)

pub map_agrees : (f g : ℕ → ℕ) (xs : List ℕ) (x : ℕ) → map f xs ≡ map g xs → has x xs ≡ true → f x ≡ g x
map_agrees f g [] x e h = absurd (false≢true h)
map_agrees f g (y ∷ ys) x e h = grind (arith, nat_tests, map_agrees f g ys x)
