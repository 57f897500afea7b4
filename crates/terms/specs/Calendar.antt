-- Business days. A calendar means a set of days. Assumes nothing.
use Rattle.std.specs.Prelude.{◌≡◌, ℕ, ◌+◌, ◌%◌, ◌<◌, Bool, true, false, ◌&&◌, nat_le, nat_lt}

-- Monday to Friday, up to day 100,000; day 0 is a Thursday.
abbrev pub weekdays : ℕ → Bool
weekdays day = nat_le day 100000 && nat_lt ((day + 3) % 7) 5

-- The first business day after a day.
pub record NextBusinessDay (business : ℕ → Bool) (day next : ℕ) : Type 0 where
  pub later : day < next
  pub works : business next ≡ true
  pub none_between : (d : ℕ) → day < d → d < next → business d ≡ false
