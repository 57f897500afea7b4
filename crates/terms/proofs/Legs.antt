-- Legs as they come one by one: what one more leg does to the pairs of the first list. Assumes nothing.
use Rattle.std.proofs.Common.{◌≡◌, ℕ, ◌+◌, Bool, true, cond, not, ◌&&◌, eqb, List, [], ◌∷◌, ◌++◌, Some, sum_by, refl, arith}
use Rattle.std.proofs.lemmas.List.Sums.{fold_push, sum_by-cons}
use Rattle.std.proofs.lemmas.Bool.Decides.{nat_tests}
use Rattle.terms.specs.Pairs.{Pair, pair, with_leg, with_row, delivery_pairs, sold_in, bought_in}
use Rattle.terms.specs.declared.calls.BondCode.{BondCode}
use Rattle.terms.specs.declared.rows.Row.{Row}
use Rattle.terms.specs.declared.rows.Row.TheVariants.{Leg}

-- one more row
pub delivery_push : (rows : List Row) (s b n : ℕ) (bond : BondCode) →
    delivery_pairs (rows ++ (Leg s b n (Some bond) ∷ [])) ≡ with_leg s b n (delivery_pairs rows)
delivery_push rows s b n bond = fold_push with_row [] rows (Leg s b n (Some bond))

-- a sum over pairs that looks only at the key and is additive in the lots
module _ (key : Pair → ℕ) (a : ℕ) (keyed : (s b n k : ℕ) → key (pair s b n) ≡ key (pair s b k)) where
  abbrev pub keyed_sum : List Pair → ℕ
  keyed_sum ps = sum_by (λ (p : Pair). cond (eqb (key p) a) p.lots 0) ps

  pub with_leg_sum : (s b n : ℕ) (ps : List Pair) → keyed_sum (with_leg s b n ps) ≡ keyed_sum ps + cond (eqb (key (pair s b n)) a) n 0
  with_leg_sum s b n [] = omega (arith, sum_by-cons (λ (p : Pair). cond (eqb (key p) a) p.lots 0) (pair s b n) [])
  with_leg_sum s b n (p ∷ ps) =
      grind (
        arith,
        nat_tests,
        keyed s b p.lots n,
        keyed s b (p.lots + n) n,
        sum_by-cons (λ (q : Pair). cond (eqb (key q) a) q.lots 0) p ps,
        sum_by-cons (λ (q : Pair). cond (eqb (key q) a) q.lots 0) (pair s b (p.lots + n)) ps,
        sum_by-cons (λ (q : Pair). cond (eqb (key q) a) q.lots 0) p (with_leg s b n ps),
        with_leg_sum s b n ps,
      )

-- what a leg adds to its seller and to its buyer
pub with_leg_sold : (s b n : ℕ) (ps : List Pair) (a : ℕ) → sold_in (with_leg s b n ps) a ≡ sold_in ps a + cond (eqb s a) n 0
with_leg_sold s b n ps a = with_leg_sum (λ p. p.seller) a (λ s b n k. refl) s b n ps

pub with_leg_bought : (s b n : ℕ) (ps : List Pair) (a : ℕ) → bought_in (with_leg s b n ps) a ≡ bought_in ps a + cond (eqb b a) n 0
with_leg_bought s b n ps a = with_leg_sum (λ p. p.buyer) a (λ s b n k. refl) s b n ps

-- no pair of this seller and buyer
abbrev pub apart : ℕ → ℕ → List Pair → Bool
apart s b [] = true
apart s b (p ∷ ps) = not (eqb p.seller s && eqb p.buyer b) && apart s b ps

-- a leg of a new seller and buyer is a pair behind the others
pub with_leg_new : (s b n : ℕ) (ps : List Pair) → apart s b ps ≡ true → with_leg s b n ps ≡ ps ++ (pair s b n ∷ [])
with_leg_new s b n [] h = refl
with_leg_new s b n (p ∷ ps) h = grind (arith, nat_tests, with_leg_new s b n ps)

-- a leg of the last pair's seller and buyer joins it
pub with_leg_last : (s b n l : ℕ) (ps : List Pair) → apart s b ps ≡ true → with_leg s b n (ps ++ (pair s b l ∷ [])) ≡ ps ++ (pair s b (l + n) ∷ [])
with_leg_last s b n l [] h = grind (arith, nat_tests)
with_leg_last s b n l (p ∷ ps) h = grind (arith, nat_tests, with_leg_last s b n l ps)
