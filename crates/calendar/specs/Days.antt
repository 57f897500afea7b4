-- Sets of days: those of a list, those without named days, and the first one after a day. Assumes nothing.
use Rattle.std.specs.Prelude.{◌≡◌, ℕ, ◌<◌, ◌≤◌, Bool, false, cond, not, ◌&&◌, ◌||◌, List, [], ◌∷◌, ◌++◌, length, Some, None, Option, nat_le, nat_lt}
use Rattle.terms.specs.Answers.{Answer, granted, refused}
use Rattle.terms.specs.Calendar.{NextBusinessDay}
use Rattle.terms.specs.Month.{has}

-- The days of a list, up to day 100,000.
abbrev pub listed : List ℕ → ℕ → Bool
listed days day = nat_le day 100000 && has day days

-- The business days without those named.
abbrev pub without : List ℕ → (ℕ → Bool) → ℕ → Bool
without named business day = not (has day named) && business day

-- Naming a day is refused with 9 exactly if it is new and 64 days are named.
abbrev pub named_answer : ℕ → List ℕ → Answer (Unit {0})
named_answer day named = cond (has day named || nat_lt (length named) 64) (granted tt) (refused 9)

-- The days named after it: a new day is added while there is room.
abbrev pub named_after : ℕ → List ℕ → List ℕ
named_after day named = cond (has day named) named (cond (nat_lt (length named) 64) (named ++ day ∷ []) named)

-- The first business day after a day and up to a limit; none exactly if no day between is one.
abbrev pub NextWithin : (ℕ → Bool) → ℕ → ℕ → Option ℕ → Type 0
NextWithin business day limit None = (d : ℕ) → day < d → d ≤ limit → business d ≡ false
NextWithin business day limit (Some next) = NextBusinessDay business day next × (next ≤ limit)
