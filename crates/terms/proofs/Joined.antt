-- A seller's pieces, one behind the other, make the pairs that one piece makes. Assumes nothing.
use Rattle.std.proofs.Common.{◌≡◌, ℕ, ◌+◌, ◌-◌, ◌≤◌, min, cond, eqb, List, [], ◌∷◌, ◌++◌, map, None, sum_by, refl, arith}
use Rattle.std.specs.List.{flat_map}
use Rattle.std.proofs.lemmas.List.Sums.{sum_by-cons}
use Rattle.std.proofs.lemmas.Bool.Decides.{nat_tests}
use Rattle.terms.specs.Lines.{Part}
use Rattle.terms.specs.Pairs.{Pair, with_leg}
use Rattle.terms.specs.Rounds.{Piece, piece, bond_pieces, behind}
use Rattle.terms.specs.declared.calls.BondLots.{BondLots}
use Rattle.terms.proofs.Behind.{behind_zero}

-- two legs of one seller and buyer, one after the other, are one leg
leg_twice : (s b n k : ℕ) (ps : List Pair) → with_leg s b k (with_leg s b n ps) ≡ with_leg s b (n + k) ps
leg_twice s b n k [] = grind (arith, nat_tests)
leg_twice s b n k (p ∷ ps) = grind (arith, nat_tests, leg_twice s b n k ps)

-- lots of a seller and a buyer, none being no leg
abbrev pub with_lots : ℕ → ℕ → ℕ → List Pair → List Pair
with_lots s b n ps = cond (eqb n 0) ps (with_leg s b n ps)

lots_nil : (s b n : ℕ) (ps : List Pair) → n ≡ 0 → with_lots s b n ps ≡ ps
lots_nil s b n ps e = grind (arith, nat_tests)

lots_twice : (s b n k : ℕ) (ps : List Pair) → with_lots s b k (with_lots s b n ps) ≡ with_lots s b (n + k) ps
lots_twice s b n k ps = grind (arith, nat_tests, leg_twice s b n k ps)

-- n lots of a seller meet the buyers' line
abbrev pub met : ℕ → ℕ → List Part → List Pair → List Pair
met s n [] ps = ps
met s n (b ∷ bs) ps = met s (n - b.lots) bs (with_lots s b.account (min n b.lots) ps)

met_zero : (s n : ℕ) (bs : List Part) (ps : List Pair) → n ≡ 0 → met s n bs ps ≡ ps
met_zero s n [] ps e = refl
met_zero s n (b ∷ bs) ps e =
    grind (arith, nat_tests, met_zero s (n - b.lots) bs (with_lots s b.account (min n b.lots) ps), lots_nil s b.account (min n b.lots) ps)

-- lots of one seller, one piece behind the other, meet the line as one piece
behind_join : (n k : ℕ) (bs : List Part) → behind k (behind n bs) ≡ behind (n + k) bs
behind_join n k [] = refl
behind_join n k (b ∷ bs) =
    grind (arith, behind_zero (n - b.lots) bs, behind_join (n - b.lots) (k - (b.lots - n)) bs)

met_join : (s n k : ℕ) (bs : List Part) (ps : List Pair) → met s k (behind n bs) (met s n bs ps) ≡ met s (n + k) bs ps
met_join s n k [] ps = refl
met_join s n k (b ∷ bs) ps =
    let l = b.lots in
    let meet : min n l + min k (l - n) ≡ min (n + k) l = omega arith in
    grind (
      arith,
      meet,
      met_zero s (n - l) bs (with_lots s b.account (min n l) ps),
      behind_zero (n - l) bs,
      lots_twice s b.account (min n l) (min k (l - n)) ps,
      lots_nil s b.account (min k (l - n)) (met s (n - l) bs (with_lots s b.account (min n l) ps)),
      met_join s (n - l) (k - (l - n)) bs (with_lots s b.account (min n l) ps),
    )

-- a sellers' line meets the buyers' line
abbrev pub meets : List Piece → List Part → List Pair → List Pair
meets [] bs ps = ps
meets (q ∷ qs) bs ps = meets qs (behind q.lots bs) (met q.seller q.lots bs ps)

-- sellers' lots, with their bonds and without
abbrev pub bonded : (ℕ → ℕ) → (ℕ → List BondLots) → List ℕ → List Piece
bonded f bonds xs = flat_map (λ a. bond_pieces a (f a) (bonds a)) xs

abbrev pub unbonded : (ℕ → ℕ) → List ℕ → List Piece
unbonded f xs = map (λ a. piece a None (f a)) xs

bonds_join : (s n : ℕ) (bonds : List BondLots) (qs : List Piece) (bs : List Part) (ps : List Pair) →
    meets (bond_pieces s n bonds ++ qs) bs ps ≡ meets (piece s None (min n (sum_by (λ (b : BondLots). b.lots) bonds)) ∷ qs) bs ps
bonds_join s n [] qs bs ps = grind (arith, behind_zero (min n 0) bs, met_zero s (min n 0) bs ps)
bonds_join s n (b ∷ bonds) qs bs ps =
    let x = min n b.lots in
    let y = min (n - b.lots) (sum_by (λ (c : BondLots). c.lots) bonds) in
    grind (
      arith,
      sum_by-cons (λ (c : BondLots). c.lots) b bonds,
      bonds_join s (n - b.lots) bonds qs (behind x bs) (met s x bs ps),
      behind_join x y bs,
      met_join s x y bs ps,
    )

-- each seller's bonds hold its lots
pub lines_join : (f : ℕ → ℕ) (bonds : ℕ → List BondLots) → ((a : ℕ) → f a ≤ sum_by (λ (b : BondLots). b.lots) (bonds a)) →
    (xs : List ℕ) (bs : List Part) (ps : List Pair) → meets (bonded f bonds xs) bs ps ≡ meets (unbonded f xs) bs ps
lines_join f bonds h [] bs ps = refl
lines_join f bonds h (x ∷ xs) bs ps =
    grind (
      arith,
      h x,
      bonds_join x (f x) (bonds x) (bonded f bonds xs) bs ps,
      lines_join f bonds h xs (behind (f x) bs) (met x (f x) bs ps),
    )
