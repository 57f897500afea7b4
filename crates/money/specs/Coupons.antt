-- How often a year a coupon is paid. Assumes nothing.
use Rattle.std.specs.Prelude.{ℕ, ◌*◌, ◌≤◌, cond, Some, None, Option, ◌==◌}
use Rattle.money.specs.Amounts.{accrued}
use Rattle.money.specs.declared.coupons.Coupon.{Coupon}
use Rattle.money.specs.declared.coupons.Frequency.{Frequency}
use Rattle.money.specs.declared.coupons.Frequency.TheVariants.{Yearly, HalfYearly, Quarterly}

-- Coupons a year.
abbrev pub coupons : Frequency → ℕ
coupons Yearly = 1
coupons HalfYearly = 2
coupons Quarterly = 4

-- The frequency with so many coupons a year.
abbrev pub frequency : ℕ → Option Frequency
frequency n = cond (n == 1) (Some Yearly) (cond (n == 2) (Some HalfYearly) (cond (n == 4) (Some Quarterly) None))

-- How large a coupon's interest and the quotient that it is rounded from can be; the divisor is not 0.
pub record Accruing (k : Coupon) : Type 0 where
  pub earned : k.rate * 10000 * k.period.gone ≤ 732000000000
  pub some : 1 ≤ coupons k.frequency * k.period.days
  pub few : coupons k.frequency * k.period.days ≤ 1464
  pub interest : accrued k.rate (coupons k.frequency) k.period.gone k.period.days ≤ 2000000000
