-- What a rule answers is what it has to answer. Assumes nothing.
use Rattle.std.proofs.Common.{◌≡◌, ℕ, ◌<◌, ◌≤◌, true, List, [], ◌∷◌, length, sum, get_or, mul-le-mul_right, arith}
use Rattle.std.specs.List.{AllByRecursion, list_all}
use Rattle.std.proofs.ByRecursion.{All-weaker, All-get_or, sum_by_le}
use Rattle.std.proofs.lemmas.Bool.Decides.{nat_tests}
use Rattle.terms.specs.Codes.{between}
use Rattle.terms.specs.OddLots.{Shareable}
use Rattle.oddlot.specs.Sharing.{can_split}

-- each entry of a list that passes has 1 to 100,000 lots
sizes_from : (xs : List ℕ) → list_all (between 1 100000) xs ≡ true → AllByRecursion (λ q. (1 ≤ q) × (q ≤ 100000)) xs
sizes_from [] h = tt
sizes_from (x ∷ xs) h = ((grind (arith, nat_tests), grind (arith, nat_tests)), sizes_from xs (grind (arith, nat_tests)))

-- the parts of the test, by name
pub record Passed (lots : List ℕ) (n places : ℕ) : Type 0 where
  pub shareable : Shareable lots n
  pub as_many : places ≡ length lots
  pub bounded : sum lots ≤ 25600000

pub passed_from : (lots : List ℕ) (n places : ℕ) → can_split lots n places ≡ true → Passed lots n places
passed_from lots n places h =
    let few : length lots ≤ 256 = grind (arith, nat_tests) in
    let sizes = sizes_from lots (grind (arith, nat_tests)) in
    let most = sum_by_le (λ (q : ℕ). q) 100000 lots (All-weaker (λ q. (1 ≤ q) × (q ≤ 100000)) (λ q. q ≤ 100000) (λ q p. p.1) lots sizes) in
    record {
      shareable = record { some = grind (arith, nat_tests); few = few; sizes = sizes; enough = grind (arith, nat_tests) };
      as_many = grind (arith, nat_tests);
      bounded = omega (arith, most, mul-le-mul_right {m = length lots} {n = 256} 100000 few);
    }

-- an entry has at most 100,000 lots
pub entry_small : (lots : List ℕ) (n : ℕ) → Shareable lots n → (i : ℕ) → i < length lots → get_or lots i 0 ≤ 100000
entry_small lots n s i l = (All-get_or (λ q. (1 ≤ q) × (q ≤ 100000)) lots i 0 l s.sizes).1
