-- Two sides laid along a line in account order: each overlap of a seller and a buyer is a pair. Assumes nothing.
use Rattle.std.specs.Prelude.{ℕ, zero, suc, ◌+◌, ◌-◌, min, cond, List, [], ◌∷◌, length, sum_by, ◌==◌, nat_lt}
use Rattle.terms.specs.Pairs.{Pair, pair}

-- the lots of an account on one side
pub record Part : Type 0 where
  pub account : ℕ
  pub lots : ℕ

-- a part, from its account and lots
abbrev pub part : ℕ → ℕ → Part
part a n = record { account = a; lots = n }

-- the lots of an account on a line
abbrev pub of_account : ℕ → List Part → ℕ
of_account a ps = sum_by (λ (p : Part). cond (p.account == a) p.lots 0) ps

-- all lots on a line
abbrev pub lots_on_line : List Part → ℕ
lots_on_line ps = sum_by (λ (p : Part). p.lots) ps

-- the accounts with lots, in their order
abbrev pub line : (ℕ → ℕ) → List ℕ → List Part
line f [] = []
line f (a ∷ rest) = cond (nat_lt 0 (f a)) (part a (f a) ∷ line f rest) (line f rest)

-- what is left of a line once n lots of its first part are gone
abbrev pub past : Part → ℕ → List Part → List Part
past p n ps = cond (nat_lt n p.lots) (part p.account (p.lots - n) ∷ ps) ps

-- the overlaps, in the order of the line; a number bounds the steps
abbrev pub overlaps : ℕ → List Part → List Part → List Pair
overlaps zero ss bs = []
overlaps (suc k) [] bs = []
overlaps (suc k) (s ∷ ss) [] = []
overlaps (suc k) (s ∷ ss) (b ∷ bs) = pair s.account b.account (min s.lots b.lots) ∷ overlaps k (past s b.lots ss) (past b s.lots bs)

-- The pairs of two sides, f to sell and g to buy.
abbrev pub laid : (ℕ → ℕ) → (ℕ → ℕ) → List ℕ → List Pair
laid f g accounts = overlaps (length (line f accounts) + length (line g accounts)) (line f accounts) (line g accounts)
