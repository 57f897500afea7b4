-- Numbers in rising order, and sums over them. Assumes nothing.
use Rattle.std.proofs.Common.{◌≡◌, ℕ, ◌+◌, ◌≤◌, Bool, true, cond, eqb, ◌⊎◌, List, [], ◌∷◌, map, length, sum_by, filter, sym, refl, ◌∙◌, subst, ap₂, inl, inr, arith, ap, false}
use Rattle.std.proofs.lemmas.List.Sums.{sum_by-cons, length-filter, count_by-le-length}
use Rattle.std.proofs.lemmas.Bool.{cases_Bool, false≢true}
use Rattle.std.proofs.lemmas.Bool.Decides.{nat_tests}
use Rattle.terms.specs.Lots.{Dated, Position, lots_in, lots_of_day}
use Rattle.terms.specs.Month.{has, with_day, with_days, days_among}
use Rattle.terms.specs.Facts.{Rising}
use Rattle.terms.proofs.Sums.{has_here, has_there, has_cases, sum_add, sum_same, sum_zero}
use Rattle.terms.proofs.Alone.{has_with_day}

-- what holds of the terms at the numbers of the list
pub sum_le_in : (f g : ℕ → ℕ) (xs : List ℕ) → ((x : ℕ) → has x xs ≡ true → f x ≤ g x) → sum_by f xs ≤ sum_by g xs
sum_le_in f g [] h = omega arith
sum_le_in f g (x ∷ xs) h =
    omega (arith, h x (has_here x xs), sum_by-cons f x xs, sum_by-cons g x xs, sum_le_in f g xs (λ y i. h y (has_there y x xs i)))

pub sum_same_in : (f g : ℕ → ℕ) (xs : List ℕ) → ((x : ℕ) → has x xs ≡ true → f x ≡ g x) → sum_by f xs ≡ sum_by g xs
sum_same_in f g xs h = omega (arith, sum_le_in f g xs (λ x i. let e = h x i in omega arith), sum_le_in g f xs (λ x i. let e = h x i in omega arith))

pub map_same_in : (f g : ℕ → ℕ) (xs : List ℕ) → ((x : ℕ) → has x xs ≡ true → f x ≡ g x) → map f xs ≡ map g xs
map_same_in f g [] h = refl
map_same_in f g (x ∷ xs) h = ap₂ (λ a b. a ∷ b) (h x (has_here x xs)) (map_same_in f g xs (λ y i. h y (has_there y x xs i)))

pub has_term : (f : ℕ → ℕ) (xs : List ℕ) (x : ℕ) → has x xs ≡ true → f x ≤ sum_by f xs
has_term f [] x i = absurd (false≢true i)
has_term f (y ∷ ys) x i = grind (arith, nat_tests, sum_by-cons f y ys, has_term f ys x)

-- a filter keeps numbers of the list, and their order
pub kept_has : (p : ℕ → Bool) (xs : List ℕ) (x : ℕ) → has x (filter p xs) ≡ true → (has x xs ≡ true) × (p x ≡ true)
kept_has p [] x h = absurd (false≢true h)
kept_has p (y ∷ ys) x h = grind (arith, nat_tests, kept_has p ys x)

pub kept_rising : (p : ℕ → Bool) (xs : List ℕ) → Rising xs → Rising (filter p xs)
kept_rising p [] r = tt
kept_rising p (x ∷ xs) r = grind (arith, kept_has p xs, kept_rising p xs)

pub kept_length : (p : ℕ → Bool) (xs : List ℕ) → length (filter p xs) ≤ length xs
kept_length p xs = omega (arith, length-filter p xs, count_by-le-length p xs)

-- the days of purchase rise
pub day_has : (x d : ℕ) (days : List ℕ) → has x (with_day d days) ≡ true → (d ≡ x) ⊎ (has x days ≡ true)
day_has x d [] h = grind (arith, nat_tests)
day_has x d (y ∷ ys) h = grind (arith, nat_tests, day_has x d ys)

with_day_rising : (d : ℕ) (days : List ℕ) → Rising days → Rising (with_day d days)
with_day_rising d [] r = (λ y h. absurd (false≢true h), tt)
with_day_rising d (y ∷ ys) r = grind (arith, nat_tests, day_has, with_day_rising d ys)

with_days_rising : (ls : List Dated) (days : List ℕ) → Rising days → Rising (with_days ls days)
with_days_rising [] days r = r
with_days_rising (l ∷ ls) days r = with_day_rising l.day (with_days ls days) (with_days_rising ls days r)

pub days_rising : (positions : ℕ → Position) (accounts : List ℕ) → Rising (days_among positions accounts)
days_rising positions [] = tt
days_rising positions (a ∷ rest) = with_days_rising (positions a).long (days_among positions rest) (days_rising positions rest)

-- all lots of an account are of its days
abbrev pub Within : List Dated → List ℕ → Type 0
Within [] days = Unit {0}
Within (l ∷ ls) days = (has l.day days ≡ true) × Within ls days

within_more : (ls : List Dated) (l : Dated) (days : List ℕ) → Within ls days → Within ls (with_day l.day days)
within_more [] l days w = tt
within_more (k ∷ ks) l days w = (has_with_day k.day l.day days (inr w.0), within_more ks l days w.1)

within_days : (ls ks : List Dated) (days : List ℕ) → Within ls days → Within ls (with_days ks days)
within_days ls [] days w = w
within_days ls (k ∷ ks) days w = within_more ls k (with_days ks days) (within_days ls ks days w)

within_own : (ls : List Dated) (days : List ℕ) → Within ls (with_days ls days)
within_own [] days = tt
within_own (l ∷ ls) days = (has_with_day l.day l.day (with_days ls days) (inl refl), within_more ls l (with_days ls days) (within_own ls days))

pub days_within : (positions : ℕ → Position) (accounts : List ℕ) (a : ℕ) → has a accounts ≡ true → Within (positions a).long (days_among positions accounts)
days_within positions [] a i = absurd (false≢true i)
days_within positions (b ∷ bs) a i =
    elim (has_cases a b bs i) [
      | inl e ↦ subst (λ x. Within (positions x).long (days_among positions (b ∷ bs))) e (within_own (positions b).long (days_among positions bs))
      | inr j ↦ within_days (positions a).long (positions b).long (days_among positions bs) (days_within positions bs a j)
    ]

-- a sum with no term, and a sum with one term
pub sum_no_term : (f : ℕ → ℕ) (xs : List ℕ) → ((x : ℕ) → has x xs ≡ true → f x ≡ 0) → sum_by f xs ≡ 0
sum_no_term f xs h = sum_same_in f (λ (x : ℕ). 0) xs h ∙ sum_zero xs

pub sum_one_term : (f : ℕ → ℕ) (k : ℕ) (xs : List ℕ) → Rising xs → has k xs ≡ true → ((x : ℕ) → (x ≡ k → ⊥) → f x ≡ 0) → sum_by f xs ≡ f k
sum_one_term f k [] r i h = absurd (false≢true i)
sum_one_term f k (x ∷ xs) r i h =
    elim (has_cases k x xs i) [
      | inl e ↦ omega (arith, sum_by-cons f x xs, ap f e, sum_no_term f xs (λ y j. h y (λ q. omega (arith, r.0 y j))))
      | inr j ↦ omega (arith, sum_by-cons f x xs, h x (λ q. omega (arith, r.0 k j)), sum_one_term f k xs r.1 j h)
    ]

sum_one : (k n : ℕ) (xs : List ℕ) → Rising xs → has k xs ≡ true → sum_by (λ x. cond (eqb k x) n 0) xs ≡ n
sum_one k n xs r i = sum_one_term (λ x. cond (eqb k x) n 0) k xs r i (λ x h. grind (arith, nat_tests)) ∙ grind (arith, nat_tests)

-- the one term of a sum that a number has
pub sum_at : (f : ℕ → ℕ) (xs : List ℕ) (a : ℕ) → Rising xs → (has a xs ≡ false → f a ≡ 0) → sum_by (λ x. cond (eqb x a) (f x) 0) xs ≡ f a
sum_at f xs a r off =
    elim (cases_Bool (has a xs)) [
      | inl i ↦ sum_one_term (λ x. cond (eqb x a) (f x) 0) a xs r i (λ x n. grind (arith, nat_tests)) ∙ grind (arith, nat_tests)
      | inr n ↦ sum_no_term (λ x. cond (eqb x a) (f x) 0) xs (λ x i. grind (arith, nat_tests)) ∙ sym (off n)
    ]

-- the lots of the days add up to all lots
pub lots_by_day : (ls : List Dated) (days : List ℕ) → Rising days → Within ls days → sum_by (λ d. lots_of_day d ls) days ≡ lots_in ls
lots_by_day [] days r w = sum_zero days
lots_by_day (l ∷ ls) days r w =
    omega (
      arith,
      sum_same (λ d. lots_of_day d (l ∷ ls)) (λ d. cond (eqb l.day d) l.lots 0 + lots_of_day d ls) days
          (λ d. sum_by-cons (λ (k : Dated). cond (eqb k.day d) k.lots 0) l ls),
      sum_add (λ d. cond (eqb l.day d) l.lots 0) (λ d. lots_of_day d ls) days,
      sum_one l.day l.lots days r w.0,
      lots_by_day ls days r w.1,
      sum_by-cons (λ (k : Dated). k.lots) l ls,
    )
