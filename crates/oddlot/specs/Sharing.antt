-- What an odd-lot rule answers, and what it refuses. Assumes nothing.
use Rattle.std.specs.Prelude.{ℕ, Bool, cond, not, ◌&&◌, List, length, sum, ◌==◌, nat_le}
use Rattle.std.specs.List.{list_all}
use Rattle.terms.specs.Answers.{Answer, granted, refused}
use Rattle.terms.specs.Codes.{between}

-- A list of 1 to 256 entries of 1 to 100,000 lots, an area of as many places, and no more than the list's total to share.
abbrev pub can_split : List ℕ → ℕ → ℕ → Bool
can_split lots n places = not (length lots == 0) && (nat_le (length lots) 256 && (places == length lots && (list_all (between 1 100000) lots && nat_le n (sum lots))))

-- Anything else is refused with 8.
abbrev pub split_answer : List ℕ → ℕ → ℕ → Answer (Unit {0})
split_answer lots n places = cond (can_split lots n places) (granted tt) (refused 8)
