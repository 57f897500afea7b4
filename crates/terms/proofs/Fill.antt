-- Lots taken from days, the oldest first, until a number is reached; and the parts of a list by account. Assumes nothing.
use Rattle.std.proofs.Common.{◌≡◌, ℕ, suc, ◌+◌, ◌-◌, ◌*◌, ◌/◌, ◌<◌, ◌≤◌, min, true, cond, eqb, ltb, List, [], ◌∷◌, map, length, get_or, sum_by, sum, refl, ◌∙◌, ap₂, add-mul, mul-le-mul_left, arith}
use Rattle.std.specs.List.{AllByRecursion}
use Rattle.std.proofs.lemmas.Nat.{div_below}
use Rattle.std.proofs.lemmas.List.Sums.{sum_by-cons, sum_by-le-sum_by}
use Rattle.std.proofs.lemmas.Bool.{eq-eqb, false≢true, cond-true}
use Rattle.std.proofs.lemmas.Bool.Decides.{nat_tests}
use Rattle.terms.specs.Month.{has}
use Rattle.terms.specs.Rounds.{before, fill, part_of}
use Rattle.terms.specs.Facts.{Rising}
use Rattle.terms.proofs.Sums.{has_here, has_there}
use Rattle.terms.proofs.Rising.{sum_same_in, map_same_in}

before_none : (t : ℕ → ℕ) (d : ℕ) (days : List ℕ) → ((x : ℕ) → has x days ≡ true → d < x) → before t days d ≡ 0
before_none t d [] h = refl
before_none t d (x ∷ xs) h =
    grind (
      arith,
      nat_tests,
      h x (has_here x xs),
      sum_by-cons (λ e. cond (ltb e d) (t e) 0) x xs,
      before_none t d xs (λ y i. h y (has_there y x xs i)),
    )

pub before_step : (t : ℕ → ℕ) (days : List ℕ) (d' d : ℕ) → d' < d → has d' days ≡ true → before t days d' + t d' ≤ before t days d
before_step t [] d' d l i = absurd (false≢true i)
before_step t (e ∷ es) d' d l i =
    grind (
      arith,
      nat_tests,
      sum_by-cons (λ x. cond (ltb x d') (t x) 0) e es,
      sum_by-cons (λ x. cond (ltb x d) (t x) 0) e es,
      sum_by-le-sum_by (λ x. cond (ltb x d') (t x) 0) (λ x. cond (ltb x d) (t x) 0) es (λ x. grind (arith, nat_tests)),
      before_step t es d' d l,
    )

pub before_all : (t : ℕ → ℕ) (days : List ℕ) (d : ℕ) → has d days ≡ true → before t days d + t d ≤ sum_by t days
before_all t [] d i = absurd (false≢true i)
before_all t (e ∷ es) d i =
    grind (
      arith,
      nat_tests,
      sum_by-cons (λ x. cond (ltb x d) (t x) 0) e es,
      sum_by-cons t e es,
      sum_by-le-sum_by (λ x. cond (ltb x d) (t x) 0) t es (λ x. grind arith),
      before_all t es d,
    )

-- an older day is full where a later one gives a lot
pub fill_full : (t : ℕ → ℕ) (n : ℕ) (days : List ℕ) (d' d : ℕ) → d' < d → has d' days ≡ true → 0 < fill t n days d → t d' ≤ fill t n days d'
fill_full t n days d' d l i h = omega (arith, before_step t days d' d l i)

-- every day is full where there are no more lots than n
pub fill_all : (t : ℕ → ℕ) (n : ℕ) (days : List ℕ) (d : ℕ) → has d days ≡ true → sum_by t days ≤ n → t d ≤ fill t n days d
fill_all t n days d i h = omega (arith, before_all t days d i)

-- n lots are reached, or all are taken
pub fill_sum : (t : ℕ → ℕ) (n : ℕ) (days : List ℕ) → Rising days → sum_by (fill t n days) days ≡ min n (sum_by t days)
fill_sum t n [] r = omega arith
fill_sum t n (e ∷ es) r =
    let b : before t (e ∷ es) e ≡ 0 = grind (arith, nat_tests, sum_by-cons (λ x. cond (ltb x e) (t x) 0) e es, before_none t e es r.0) in
    let tail : sum_by (fill t n (e ∷ es)) es ≡ sum_by (fill t (n - t e) es) es =
    sum_same_in (fill t n (e ∷ es)) (fill t (n - t e) es) es
    (λ d i. grind (arith, nat_tests, sum_by-cons (λ x. cond (ltb x d) (t x) 0) e es, r.0 d i)) in
    omega (arith, sum_by-cons (fill t n (e ∷ es)) e es, sum_by-cons t e es, b, tail, fill_sum t (n - t e) es r.1)

pub part_le : (f : ℕ → ℕ) (xs ps : List ℕ) → ((i : ℕ) → i < length xs → get_or ps i 0 ≤ get_or (map f xs) i 0) → (a : ℕ) → part_of a xs ps ≤ f a
part_le f [] ps h a = omega arith
part_le f (x ∷ xs) [] h a = omega arith
part_le f (x ∷ xs) (p ∷ ps) h a = grind (arith, nat_tests, h 0 (omega arith), part_le f xs ps (λ i l. h (suc i) (omega arith)) a)

pub part_ge : (f : ℕ → ℕ) (xs ps : List ℕ) → length ps ≡ length xs → ((i : ℕ) → i < length xs → get_or (map f xs) i 0 ≤ get_or ps i 0) →
    (a : ℕ) → has a xs ≡ true → f a ≤ part_of a xs ps
part_ge f [] ps k h a i = absurd (false≢true i)
part_ge f (x ∷ xs) [] k h a i = absurd (omega arith)
part_ge f (x ∷ xs) (p ∷ ps) k h a i =
    grind (arith, nat_tests, h 0 (omega arith), part_ge f xs ps (omega arith) (λ y l. h (suc y) (omega arith)) a)

pub parts_map : (xs ps : List ℕ) → Rising xs → length ps ≡ length xs → map (λ a. part_of a xs ps) xs ≡ ps
parts_map [] [] r k = refl
parts_map [] (p ∷ ps) r k = absurd (omega arith)
parts_map (x ∷ xs) [] r k = absurd (omega arith)
parts_map (x ∷ xs) (p ∷ ps) r k =
    ap₂ (λ a b. a ∷ b) (cond-true (eqb x x) p (part_of x xs ps) (eq-eqb x x refl))
    (map_same_in (λ a. cond (eqb x a) p (part_of a xs ps)) (λ a. part_of a xs ps) xs (λ y i. grind (arith, nat_tests, r.0 y i))
    ∙ parts_map xs ps r.1 (omega arith))

-- a share of at most all, rounded up, is no more than the lots
pub ceil_le : (q n t : ℕ) → 0 < t → n ≤ t → (q * n + (t - 1)) / t ≤ q
ceil_le q n t p l =
    let k = mul-le-mul_left q l in
    let s : q * n + (t - 1) < (q + 1) * t = omega (arith, add-mul q 1 t) in
    omega (arith, div_below (q * n + (t - 1)) t (q + 1) p s)

pub sum_positive : (qs : List ℕ) → AllByRecursion (λ q. (1 ≤ q) × (q ≤ 100000)) qs → 0 < length qs → 0 < sum qs
sum_positive [] h l = absurd (omega arith)
sum_positive (q ∷ qs) h l = omega (arith, sum_by-cons (λ (x : ℕ). x) q qs, h.0)
