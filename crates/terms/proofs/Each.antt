-- A test of every element, as a loop makes it. Assumes nothing.
use Rattle.std.proofs.Common.{◌≡◌, ℕ, ◌+◌, ◌<◌, ◌≤◌, Bool, true, false, List, length, get_or, drop, refl, arith}
use Rattle.std.proofs.lemmas.List.{at_drop_more, at_drop_all}
use Rattle.std.proofs.lemmas.List.Recursion.{and_at}
use Rattle.std.specs.List.{list_all}

-- an element that passes leaves the test to the rest; t is the test's outcome, as the loop began
pub each_more : {A : Type 0} {t : Bool} (p : A → Bool) (xs : List A) (i : ℕ) (d : A) → i < length xs → p (get_or xs i d) ≡ true →
    list_all p (drop i xs) ≡ t → list_all p (drop (i + 1) xs) ≡ t
each_more p xs i d l h inv = grind (arith, at_drop_more (list_all p) xs i d l)

-- one that does not decides it
pub each_fails : {A : Type 0} {t : Bool} (p : A → Bool) (xs : List A) (i : ℕ) (d : A) → i < length xs → p (get_or xs i d) ≡ false →
    list_all p (drop i xs) ≡ t → t ≡ false
each_fails p xs i d l h inv = grind (arith, at_drop_more (list_all p) xs i d l)

-- at the end all have passed
pub each_all : {A : Type 0} {t : Bool} (p : A → Bool) (xs : List A) (i : ℕ) → length xs ≤ i → list_all p (drop i xs) ≡ t → t ≡ true
each_all p xs i l inv = grind (arith, at_drop_all (list_all p) xs i l)

-- an element of a list whose elements all pass
pub each_at : {A : Type 0} (p : A → Bool) (xs : List A) (i : ℕ) (d : A) → list_all p xs ≡ true → i < length xs → p (get_or xs i d) ≡ true
each_at p xs i d h l = and_at (list_all p) p refl (λ _ _. refl) xs i d l h
