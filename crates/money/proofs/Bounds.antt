-- Bounds of the amounts, from the ranges of what they are made of. Assumes nothing.
use Rattle.std.proofs.Common.{ℕ, ◌+◌, ◌*◌, ◌^◌, ◌<◌, ◌≤◌, arith}
use Rattle.std.proofs.lemmas.Nat.{mul-le, div_below}
use Rattle.money.specs.Amounts.{half_up, performance, passed_on}
use Rattle.money.specs.Coupons.{coupons}
use Rattle.money.specs.declared.coupons.Frequency.{Frequency}
use Rattle.money.specs.declared.coupons.Frequency.TheVariants.{Yearly, HalfYearly, Quarterly}

-- a quotient that is at most k is at most k when rounded
pub half_up_le : (x d k : ℕ) → 1 ≤ d → x ≤ k * d → half_up x d ≤ k
half_up_le x d k some h =
    let below : half_up x d < k + 1 = div_below (2 * x + d) (2 * d) (k + 1) (omega arith) (omega arith) in
    omega arith

-- a price times a factor
pub due_le : (p c : ℕ) → p ≤ 2000000 → c ≤ 20000 → p * c ≤ 40000000000
due_le p c = mul-le p c 2000000 20000

-- lots, each of which comes to so much
pub lots_le : (u e : ℕ) → u ≤ 100000 → e ≤ 42000000000 → u * e ≤ 4200000000000000
lots_le u e = mul-le u e 100000 42000000000

-- lots at a price by a ratio
pub ratio_le : (u p r : ℕ) → u ≤ 100000 → p ≤ 2000000 → r ≤ 10000 → u * p * r ≤ 2000000000000000
ratio_le u p r hu hp = mul-le (u * p) r 200000000000 10000 (mul-le u p 100000 2000000 hu hp)

-- a performance sum
pub performance_le : (u p r : ℕ) → u ≤ 100000 → p ≤ 2000000 → r ≤ 10000 → performance u p r ≤ 200000000000000
performance_le u p r hu hp hr = half_up_le (u * p * r) 10 200000000000000 (omega arith) (ratio_le u p r hu hp hr)

-- its part that is passed on
pub passed_on_le : (sum s : ℕ) → s ≤ 10000 → passed_on sum s ≤ sum
passed_on_le sum s h =
    let most = mul-le sum s sum 10000 (omega arith) h in
    omega arith

-- an amount for so many lots
pub fen_le : (u e : ℕ) → u ≤ 100000 → e ≤ 42000000000 → half_up (u * e) 10 ≤ 10 ^ 16
fen_le u e hu he =
    let most = lots_le u e hu he in
    half_up_le (u * e) 10 (10 ^ 16) (omega arith) (omega arith)

-- there are one to four coupons a year
pub coupons_few : (f : Frequency) → (1 ≤ coupons f) × (coupons f ≤ 4)
coupons_few Yearly = (omega arith, omega arith)
coupons_few HalfYearly = (omega arith, omega arith)
coupons_few Quarterly = (omega arith, omega arith)
