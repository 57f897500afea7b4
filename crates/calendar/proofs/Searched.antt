-- Searches: for a number in a list, and for the first business day of some. Assumes nothing.
use Rattle.std.proofs.Common.{◌≡◌, ℕ, ◌+◌, ◌<◌, ◌≤◌, ◌==◌, ◌||◌, min, Bool, true, false, Option, Some, None, List, [], ◌∷◌, inl, inr, refl, ap, arith}
use Rattle.std.proofs.lemmas.Bool.{cases_lt}
use Rattle.std.specs.List.{list_any}
use Rattle.std.specs.Option.{MatchOption}
use Rattle.terms.specs.Month.{has}
use Rattle.calendar.specs.Days.{NextWithin}

-- a number stands in a list exactly if some item is that number
pub has_any : (n : ℕ) (xs : List ℕ) → has n xs ≡ list_any (λ x. x == n) xs
has_any n [] = refl
has_any n (x ∷ xs) = ap (λ b. x == n || b) (has_any n xs)

-- no business day lies past day 100,000, so that the first one up to there is the first one
pub next_within : (business : ℕ → Bool) (day limit from to : ℕ) (r : Option ℕ) →
    MatchOption r ((d : ℕ) → from ≤ d → d < to → business d ≡ false)
    (λ n. (from ≤ n) × (n < to) × (business n ≡ true) × ((d : ℕ) → from ≤ d → d < n → business d ≡ false)) →
    from ≡ day + 1 → to ≡ min limit 100000 + 1 → ((d : ℕ) → 100000 < d → business d ≡ false) → NextWithin business day limit r
next_within business day limit from to None found a b bounded =
    λ d later within. elim (cases_lt 100000 d) [ inl past ↦ bounded d past | inr few ↦ found d (omega arith) (omega arith) ]
next_within business day limit from to (Some n) found a b bounded =
    (record { later = omega arith; works = found.2; none_between = λ d later before. found.3 d (omega arith) before }, omega arith)
