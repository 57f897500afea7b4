-- A day in a coupon period. Assumes nothing.
use Rattle.std.specs.Prelude.{ℕ, ◌-◌, Bool, ◌&&◌, nat_le, nat_lt}

-- How many days a period has, and how many of them have gone.
pub record Progress : Type 0 where
  pub days : ℕ
  pub gone : ℕ

-- The period between two coupon days has 1 to 366 days and holds the day.
abbrev pub in_period : ℕ → ℕ → ℕ → Bool
in_period last next day = nat_lt last next && (nat_le (next - last) 366 && (nat_le last day && nat_le day next))
