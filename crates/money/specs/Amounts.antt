-- Amounts of money, in fen unless a line says otherwise. Assumes nothing.
use Rattle.std.specs.Prelude.{ℕ, ◌+◌, ◌-◌, ◌*◌, ◌/◌, ◌<◌, ◌≤◌}

-- A quotient rounded to the nearest number, halves up.
abbrev pub half_up : ℕ → ℕ → ℕ
half_up x d = (2 * x + d) / (2 * d)

-- What rounding means: twice the quotient x / d lies from 2r - 1, included, to 2r + 1.
pub record Nearest (x d r : ℕ) : Type 0 where
  pub reached : 2 * r * d ≤ 2 * x + d
  pub not_passed : 2 * x < (2 * r + 1) * d

-- Rounding gives the nearest number, for every divisor but 0.
abbrev pub RoundingNearest : Type 0
RoundingNearest = (x d : ℕ) → 1 ≤ d → Nearest x d (half_up x d)

-- Accrued interest in 1/100,000,000 yuan per hundred of face: a rate in millionths, f coupons a year, and d of the D days of the period gone.
abbrev pub accrued : ℕ → ℕ → ℕ → ℕ → ℕ
accrued rate f d D = half_up (rate * 10000 * d) (f * D)

-- What u lots cost at price p and factor c, both in 1/10,000, with accrued interest a.
abbrev pub cost : ℕ → ℕ → ℕ → ℕ → ℕ
cost u p c a = half_up (u * (p * c + a)) 10

-- What a failed seller pays for u lots: how far the valuation v lies above the price, if it does.
abbrev pub seller_difference : ℕ → ℕ → ℕ → ℕ → ℕ
seller_difference u p c v = half_up (u * (v * 10000 - p * c)) 10

-- What a failed buyer pays for u lots: how far the price lies above the valuation v, if it does.
abbrev pub buyer_difference : ℕ → ℕ → ℕ → ℕ → ℕ
buyer_difference u p c v = half_up (u * (p * c - v * 10000)) 10

-- The performance sum of a failed side for u lots, by the ratio r in 1/10,000.
abbrev pub performance : ℕ → ℕ → ℕ → ℕ
performance u p r = half_up (u * p * r) 10

-- The part of a performance sum that goes to the other side, by the share s in 1/10,000.
abbrev pub passed_on : ℕ → ℕ → ℕ
passed_on sum s = sum * s / 10000
