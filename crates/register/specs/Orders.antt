-- Orders as tests, and lists that rise. Assumes nothing.
use Rattle.std.specs.Prelude.{◌≡◌, ℕ, Bool, true, false, cond, ◌&&◌, List, [], ◌∷◌, ◌==◌, nat_lt}
use Rattle.terms.specs.declared.calls.BondCode.{BondCode}

-- A total order: no key is before itself, the order is passed on, and two keys of which neither is before the other are equal.
pub record TotalOrder {K : Type 0} (before : K → K → Bool) : Type 0 where
  pub irreflexive : (a : K) → before a a ≡ false
  pub transitive : (a b c : K) → before a b ≡ true → before b c ≡ true → before a c ≡ true
  pub connected : (a b : K) → before a b ≡ false → before b a ≡ false → a ≡ b

-- Bytes are compared from the first: the first that differ decide, else the shorter sequence is before the longer.
abbrev pub bytes_before : List ℕ → List ℕ → Bool
bytes_before [] [] = false
bytes_before [] (y ∷ ys) = true
bytes_before (x ∷ xs) [] = false
bytes_before (x ∷ xs) (y ∷ ys) = cond (x == y) (bytes_before xs ys) (nat_lt x y)

-- The order of bond codes.
abbrev pub code_before : BondCode → BondCode → Bool
code_before a b = bytes_before a.bytes b.bytes

-- A key is before the first of a list, and each key of the list before the next.
abbrev pub climbs_from : {K : Type 0} → (K → K → Bool) → K → List K → Bool
climbs_from before k [] = true
climbs_from before k (l ∷ ls) = before k l && climbs_from before l ls

-- Each key of a list is before the next.
abbrev pub climbs : {K : Type 0} → (K → K → Bool) → List K → Bool
climbs before [] = true
climbs before (k ∷ ks) = climbs_from before k ks
