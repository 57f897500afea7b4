-- Legs of a sellers' line against a buyers' line: what they sell and buy, and how many they are. Assumes nothing.
use Rattle.std.proofs.Common.{◌≡◌, ℕ, ◌+◌, ◌-◌, ◌<◌, ◌≤◌, min, Bool, cond, eqb, ltb, ◌⊎◌, List, [], ◌∷◌, length, sum_by, sym, refl, arith, length-append}
use Rattle.std.proofs.lemmas.List.Sums.{sum_by-cons, sum_by-append, sum_by-le-sum_by}
use Rattle.std.proofs.lemmas.Bool.Decides.{nat_tests}
use Rattle.terms.specs.Lines.{Part, part, of_account, lots_on_line}
use Rattle.terms.specs.Rounds.{Piece, behind, leg_row, piece_legs, legs}
use Rattle.terms.specs.declared.rows.Row.{Row}
use Rattle.terms.specs.declared.rows.Row.TheVariants.{ClassLots, Leg, Refused}

-- what a row sells for an account, and what it buys
abbrev pub sells : ℕ → Row → ℕ
sells a (ClassLots class account day lots) = 0
sells a (Leg s b n bond) = cond (eqb s a) n 0
sells a (Refused number) = 0

abbrev pub buys : ℕ → Row → ℕ
buys a (ClassLots class account day lots) = 0
buys a (Leg s b n bond) = cond (eqb b a) n 0
buys a (Refused number) = 0

-- the lots of a sellers' line, and those of one seller
abbrev pub piece_lots : List Piece → ℕ
piece_lots ps = sum_by (λ (p : Piece). p.lots) ps

abbrev pub of_seller : ℕ → List Piece → ℕ
of_seller a ps = sum_by (λ (p : Piece). cond (eqb p.seller a) p.lots 0) ps

-- 1 with lots, and else 0
abbrev pub some : ℕ → ℕ
some n = cond (ltb 0 n) 1 0

-- the pieces with lots, and the buyers with lots
abbrev pub full_pieces : List Piece → ℕ
full_pieces ps = sum_by (λ (p : Piece). some p.lots) ps

abbrev pub full_parts : List Part → ℕ
full_parts bs = sum_by (λ (b : Part). some b.lots) bs

pub some_cases : (n : ℕ) → ((n ≡ 0) × (some n ≡ 0)) ⊎ ((0 < n) × (some n ≡ 1))
some_cases n = grind (arith, nat_tests)

pub some_more : (x y : ℕ) → x ≤ y → some x ≤ some y
some_more x y h = grind (arith, nat_tests)

-- n lots laid against l lots
some_split : (n l : ℕ) → some (min n l) + some (l - n) + some (n - l) ≤ some l + some n
some_split n l = grind (arith, nat_tests)

-- numbers under one test add up as they do without it
pub cond_sum : (t : Bool) (x y z : ℕ) → x + y ≡ z → cond t x 0 + cond t y 0 ≡ cond t z 0
cond_sum t x y z e = grind arith

-- one leg
leg_sold : (p : Piece) (b n a : ℕ) → sum_by (sells a) (leg_row p b n) ≡ cond (eqb p.seller a) n 0
leg_sold p b n a = grind (arith, nat_tests, sum_by-cons (sells a) (Leg p.seller b n p.bond) [])

leg_bought : (p : Piece) (b n a : ℕ) → sum_by (buys a) (leg_row p b n) ≡ cond (eqb b a) n 0
leg_bought p b n a = grind (arith, nat_tests, sum_by-cons (buys a) (Leg p.seller b n p.bond) [])

leg_counts : (p : Piece) (b n : ℕ) → length (leg_row p b n) ≡ some n
leg_counts p b n = grind (arith, nat_tests)

-- without lots nothing is moved
pub behind_zero : (n : ℕ) (bs : List Part) → n ≡ 0 → behind n bs ≡ bs
behind_zero n [] e = refl
behind_zero n (b ∷ bs) e = grind (arith, behind_zero (n - b.lots) bs)

-- the legs of one piece
pub behind_lots : (n : ℕ) (bs : List Part) → lots_on_line (behind n bs) ≡ lots_on_line bs - n
behind_lots n [] = omega arith
behind_lots n (b ∷ bs) =
    omega (
      arith,
      sum_by-cons (λ (q : Part). q.lots) b bs,
      sum_by-cons (λ (q : Part). q.lots) (part b.account (b.lots - n)) (behind (n - b.lots) bs),
      behind_lots (n - b.lots) bs,
    )

piece_sold : (p : Piece) (n : ℕ) (bs : List Part) (a : ℕ) → sum_by (sells a) (piece_legs p n bs) ≡ cond (eqb p.seller a) (min n (lots_on_line bs)) 0
piece_sold p n [] a = grind (arith, nat_tests)
piece_sold p n (b ∷ bs) a =
    grind (
      arith,
      nat_tests,
      sum_by-append (sells a) (leg_row p b.account (min n b.lots)) (piece_legs p (n - b.lots) bs),
      leg_sold p b.account (min n b.lots) a,
      piece_sold p (n - b.lots) bs a,
      sum_by-cons (λ (q : Part). q.lots) b bs,
    )

piece_bought : (p : Piece) (n : ℕ) (bs : List Part) (a : ℕ) → sum_by (buys a) (piece_legs p n bs) + of_account a (behind n bs) ≡ of_account a bs
piece_bought p n [] a = refl
piece_bought p n (b ∷ bs) a =
    grind (
      arith,
      nat_tests,
      sum_by-append (buys a) (leg_row p b.account (min n b.lots)) (piece_legs p (n - b.lots) bs),
      leg_bought p b.account (min n b.lots) a,
      piece_bought p (n - b.lots) bs a,
      sum_by-cons (λ (q : Part). cond (eqb q.account a) q.lots 0) b bs,
      sum_by-cons (λ (q : Part). cond (eqb q.account a) q.lots 0) (part b.account (b.lots - n)) (behind (n - b.lots) bs),
    )

-- every leg is of another buyer, and at most the last leaves its buyer lots
piece_within : (p : Piece) (n : ℕ) (bs : List Part) → length (piece_legs p n bs) ≤ full_parts bs
piece_within p n [] = omega arith
piece_within p n (b ∷ bs) =
    grind (
      arith,
      nat_tests,
      length-append (leg_row p b.account (min n b.lots)) (piece_legs p (n - b.lots) bs),
      leg_counts p b.account (min n b.lots),
      sum_by-cons (λ (q : Part). some q.lots) b bs,
      piece_within p (n - b.lots) bs,
    )

piece_leaves : (p : Piece) (n : ℕ) (bs : List Part) → length (piece_legs p n bs) + full_parts (behind n bs) ≤ full_parts bs + some n
piece_leaves p n [] = omega arith
piece_leaves p n (b ∷ bs) =
    omega (
      arith,
      length-append (leg_row p b.account (min n b.lots)) (piece_legs p (n - b.lots) bs),
      leg_counts p b.account (min n b.lots),
      sum_by-cons (λ (q : Part). some q.lots) b bs,
      sum_by-cons (λ (q : Part). some q.lots) (part b.account (b.lots - n)) (behind (n - b.lots) bs),
      piece_leaves p (n - b.lots) bs,
      some_split n b.lots,
    )

-- the legs of a line
pub no_lots : (bs : List Part) (a : ℕ) → lots_on_line bs ≡ 0 → of_account a bs ≡ 0
no_lots bs a e = omega (arith, sum_by-le-sum_by (λ (q : Part). cond (eqb q.account a) q.lots 0) (λ (q : Part). q.lots) bs (λ q. grind arith))

pub legs_sold : (ps : List Piece) (bs : List Part) (a : ℕ) → piece_lots ps ≤ lots_on_line bs → sum_by (sells a) (legs ps bs) ≡ of_seller a ps
legs_sold [] bs a h = refl
legs_sold (p ∷ ps) bs a h =
    grind (
      arith,
      sum_by-cons (λ (q : Piece). q.lots) p ps,
      sum_by-append (sells a) (piece_legs p p.lots bs) (legs ps (behind p.lots bs)),
      piece_sold p p.lots bs a,
      sum_by-cons (λ (q : Piece). cond (eqb q.seller a) q.lots 0) p ps,
      behind_lots p.lots bs,
      legs_sold ps (behind p.lots bs) a,
    )

pub legs_bought : (ps : List Piece) (bs : List Part) (a : ℕ) → piece_lots ps ≡ lots_on_line bs → sum_by (buys a) (legs ps bs) ≡ of_account a bs
legs_bought [] bs a h = sym (no_lots bs a (sym h))
legs_bought (p ∷ ps) bs a h =
    let cut = sum_by-cons (λ (q : Piece). q.lots) p ps in
    omega (
      arith,
      sum_by-append (buys a) (piece_legs p p.lots bs) (legs ps (behind p.lots bs)),
      piece_bought p p.lots bs a,
      legs_bought ps (behind p.lots bs) a (omega (arith, behind_lots p.lots bs)),
    )

-- without buyers' lots there is no leg
pub legs_none : (ps : List Piece) (bs : List Part) → full_parts bs ≡ 0 → length (legs ps bs) ≡ 0
legs_none [] bs h = refl
legs_none (p ∷ ps) bs h =
    omega (
      arith,
      length-append (piece_legs p p.lots bs) (legs ps (behind p.lots bs)),
      piece_within p p.lots bs,
      legs_none ps (behind p.lots bs) (omega (arith, behind_full p.lots bs)),
    )
  where
    behind_full : (n : ℕ) (bs : List Part) → full_parts (behind n bs) ≤ full_parts bs
    behind_full n [] = omega arith
    behind_full n (b ∷ bs) =
        omega (
          arith,
          sum_by-cons (λ (q : Part). some q.lots) b bs,
          sum_by-cons (λ (q : Part). some q.lots) (part b.account (b.lots - n)) (behind (n - b.lots) bs),
          some_more (b.lots - n) b.lots (omega arith),
          behind_full (n - b.lots) bs,
        )

-- the legs are fewer than the pieces and buyers with lots
pub legs_few : (ps : List Piece) (bs : List Part) → 0 < full_pieces ps + full_parts bs → length (legs ps bs) < full_pieces ps + full_parts bs
legs_few [] bs h = h
legs_few (p ∷ ps) bs h =
    grind (
      arith,
      nat_tests,
      length-append (piece_legs p p.lots bs) (legs ps (behind p.lots bs)),
      sum_by-cons (λ (q : Piece). some q.lots) p ps,
      piece_leaves p p.lots bs,
      piece_within p p.lots bs,
      legs_none ps (behind p.lots bs),
      behind_zero p.lots bs,
      legs_few ps (behind p.lots bs),
    )
