-- Two sides laid along a line: each overlap of a seller and a buyer is a pair, and such a list is a pairing. Assumes nothing.
use Rattle.std.proofs.Common.{◌≡◌, ℕ, zero, suc, ◌+◌, ◌-◌, ◌<◌, ◌≤◌, min, true, cond, eqb, ltb, ◌⊎◌, List, [], ◌∷◌, length, sum_by, count_by, sym, refl, ◌∙◌, inl, inr, arith}
use Rattle.std.specs.List.{AllByRecursion}
use Rattle.std.proofs.lemmas.List.Sums.{sum_by-cons}
use Rattle.std.proofs.lemmas.Bool.{cases_lt, false≢true}
use Rattle.std.proofs.lemmas.Bool.Decides.{nat_tests}
use Rattle.terms.specs.Month.{has}
use Rattle.terms.specs.Facts.{Rising}
use Rattle.terms.specs.Lines.{Part, part, of_account, lots_on_line, line, past, overlaps, laid}
use Rattle.terms.specs.Pairs.{Pair, pair, sold_in, bought_in, Pairing}
use Rattle.terms.proofs.Sums.{sum_empty}
use Rattle.terms.proofs.Rising.{sum_at}
use Rattle.terms.proofs.Behind.{no_lots}

abbrev Positive : List Part → Type 0
Positive ps = AllByRecursion (λ (p : Part). 0 < p.lots) ps

past_of : (a : ℕ) (p : Part) (n k : ℕ) (ps : List Part) → k ≡ min n p.lots → cond (eqb p.account a) k 0 + of_account a (past p n ps) ≡ of_account a (p ∷ ps)
past_of a p n k ps e =
    grind (
      arith,
      nat_tests,
      sum_by-cons (λ (q : Part). cond (eqb q.account a) q.lots 0) p ps,
      sum_by-cons (λ (q : Part). cond (eqb q.account a) q.lots 0) (part p.account (p.lots - n)) ps,
    )

past_lots : (p : Part) (n : ℕ) (ps : List Part) → min n p.lots + lots_on_line (past p n ps) ≡ lots_on_line (p ∷ ps)
past_lots p n ps =
    grind (arith, nat_tests, sum_by-cons (λ (q : Part). q.lots) p ps, sum_by-cons (λ (q : Part). q.lots) (part p.account (p.lots - n)) ps)

past_positive : (p : Part) (n : ℕ) (ps : List Part) → Positive ps → Positive (past p n ps)
past_positive p n ps h = grind (arith, nat_tests)

past_length : (s b : Part) (ss bs : List Part) → length (past s b.lots ss) + length (past b s.lots bs) ≤ length ss + length bs + 1
past_length s b ss bs = grind (arith, nat_tests)

-- where both lines have as many lots, every lot is paired
overlaps_sold : (k : ℕ) (ss bs : List Part) → Positive ss → Positive bs → lots_on_line ss ≡ lots_on_line bs → length ss + length bs ≤ k →
    (a : ℕ) → sold_in (overlaps k ss bs) a ≡ of_account a ss
overlaps_sold zero [] bs p q e l a = refl
overlaps_sold zero (s ∷ ss) bs p q e l a = absurd (omega arith)
overlaps_sold (suc k) [] bs p q e l a = refl
overlaps_sold (suc k) (s ∷ ss) [] p q e l a = absurd (omega (arith, sum_by-cons (λ (x : Part). x.lots) s ss, p.0))
overlaps_sold (suc k) (s ∷ ss) (b ∷ bs) p q e l a =
    grind (
      arith,
      sum_by-cons (λ (x : Pair). cond (eqb x.seller a) x.lots 0) (pair s.account b.account (min s.lots b.lots)) (overlaps k (past s b.lots ss) (past b s.lots bs)),
      past_positive s b.lots ss p.1,
      past_positive b s.lots bs q.1,
      past_lots s b.lots ss,
      past_lots b s.lots bs,
      past_length s b ss bs,
      past_of a s b.lots (min s.lots b.lots) ss,
      overlaps_sold k (past s b.lots ss) (past b s.lots bs),
    )

overlaps_bought : (k : ℕ) (ss bs : List Part) → Positive ss → Positive bs → lots_on_line ss ≡ lots_on_line bs → length ss + length bs ≤ k →
    (a : ℕ) → bought_in (overlaps k ss bs) a ≡ of_account a bs
overlaps_bought zero ss [] p q e l a = refl
overlaps_bought zero ss (b ∷ bs) p q e l a = absurd (omega arith)
overlaps_bought (suc k) [] bs p q e l a = sym (no_lots bs a (sym e))
overlaps_bought (suc k) (s ∷ ss) [] p q e l a = refl
overlaps_bought (suc k) (s ∷ ss) (b ∷ bs) p q e l a =
    grind (
      arith,
      sum_by-cons (λ (x : Pair). cond (eqb x.buyer a) x.lots 0) (pair s.account b.account (min s.lots b.lots)) (overlaps k (past s b.lots ss) (past b s.lots bs)),
      past_positive s b.lots ss p.1,
      past_positive b s.lots bs q.1,
      past_lots s b.lots ss,
      past_lots b s.lots bs,
      past_length s b ss bs,
      past_of a b s.lots (min s.lots b.lots) bs,
      overlaps_bought k (past s b.lots ss) (past b s.lots bs),
    )

-- the pairs are fewer than the parts
overlaps_none : (k : ℕ) (ss bs : List Part) → length ss + length bs ≤ 0 → length (overlaps k ss bs) ≡ 0
overlaps_none zero ss bs h = refl
overlaps_none (suc k) [] bs h = refl
overlaps_none (suc k) (s ∷ ss) bs h = absurd (omega arith)

overlaps_few : (k : ℕ) (ss bs : List Part) → 0 < length ss + length bs → length (overlaps k ss bs) < length ss + length bs
overlaps_few zero ss bs h = h
overlaps_few (suc k) [] bs h = h
overlaps_few (suc k) (s ∷ ss) [] h = omega arith
overlaps_few (suc k) (s ∷ ss) (b ∷ bs) h =
    grind (
      arith,
      overlaps_few k (past s b.lots ss) (past b s.lots bs),
      overlaps_none k (past s b.lots ss) (past b s.lots bs),
      past_length s b ss bs,
    )

-- the line of a function over accounts
line_positive : (f : ℕ → ℕ) (xs : List ℕ) → Positive (line f xs)
line_positive f [] = tt
line_positive f (x ∷ xs) = grind (arith, nat_tests, line_positive f xs)

line_lots : (f : ℕ → ℕ) (xs : List ℕ) → lots_on_line (line f xs) ≡ sum_by f xs
line_lots f [] = refl
line_lots f (x ∷ xs) =
    grind (arith, nat_tests, sum_by-cons (λ (q : Part). q.lots) (part x (f x)) (line f xs), sum_by-cons f x xs, line_lots f xs)

line_length : (f : ℕ → ℕ) (xs : List ℕ) → length (line f xs) ≡ count_by (λ x. ltb 0 (f x)) xs
line_length f [] = refl
line_length f (x ∷ xs) = grind (arith, nat_tests, sum_by-cons (λ y. cond (ltb 0 (f y)) 1 0) x xs, line_length f xs)

line_account : (f : ℕ → ℕ) (xs : List ℕ) (a : ℕ) → of_account a (line f xs) ≡ sum_by (λ x. cond (eqb x a) (f x) 0) xs
line_account f [] a = refl
line_account f (x ∷ xs) a =
    grind (
      arith,
      nat_tests,
      sum_by-cons (λ (q : Part). cond (eqb q.account a) q.lots 0) (part x (f x)) (line f xs),
      sum_by-cons (λ y. cond (eqb y a) (f y) 0) x xs,
      line_account f xs a,
    )

-- an account has lots on one side at most
pub count_sides : (f g : ℕ → ℕ) (xs : List ℕ) → ((a : ℕ) → (f a ≡ 0) ⊎ (g a ≡ 0)) →
    count_by (λ a. ltb 0 (f a)) xs + count_by (λ a. ltb 0 (g a)) xs ≡ count_by (λ a. ltb 0 (f a + g a)) xs
count_sides f g [] h = refl
count_sides f g (x ∷ xs) h =
    grind (
      arith,
      nat_tests,
      h x,
      sum_by-cons (λ a. cond (ltb 0 (f a)) 1 0) x xs,
      sum_by-cons (λ a. cond (ltb 0 (g a)) 1 0) x xs,
      sum_by-cons (λ a. cond (ltb 0 (f a + g a)) 1 0) x xs,
      count_sides f g xs h,
    )

pub laid_pairing : (f g : ℕ → ℕ) (accounts : List ℕ) → Rising accounts → ((a : ℕ) → (has a accounts ≡ true → ⊥) → (f a ≡ 0) × (g a ≡ 0)) →
    ((a : ℕ) → (f a ≡ 0) ⊎ (g a ≡ 0)) → sum_by f accounts ≡ sum_by g accounts → Pairing accounts f g (laid f g accounts)
laid_pairing f g accounts r off sides e = record {
  sold = λ a. overlaps_sold k ss bs (line_positive f accounts) (line_positive g accounts) even (omega arith) a ∙ own f a (λ h. (off a h).0);
  bought = λ a. overlaps_bought k ss bs (line_positive f accounts) (line_positive g accounts) even (omega arith) a ∙ own g a (λ h. (off a h).1);
  few = λ l. elim (cases_lt 0 (length (line f accounts) + length (line g accounts))) [
    | inl p ↦ omega (arith, overlaps_few k ss bs p, line_length f accounts, line_length g accounts, count_sides f g accounts sides)
    | inr z ↦ absurd (omega (arith, sum_empty (λ (p : Pair). p.lots) (laid f g accounts) (omega (arith, overlaps_none k ss bs z))))
  ];
}
  where
    ss : List Part
    ss = line f accounts

    bs : List Part
    bs = line g accounts

    k : ℕ
    k = length (line f accounts) + length (line g accounts)

    even : lots_on_line (line f accounts) ≡ lots_on_line (line g accounts)
    even = line_lots f accounts ∙ e ∙ sym (line_lots g accounts)

    own : (h : ℕ → ℕ) (a : ℕ) → ((has a accounts ≡ true → ⊥) → h a ≡ 0) → of_account a (line h accounts) ≡ h a
    own h a z = line_account h accounts a ∙ sum_at h accounts a r (λ n. z (λ y. false≢true (sym n ∙ y)))
