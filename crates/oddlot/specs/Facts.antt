-- Worked examples of the rules. Assumes nothing.
use Rattle.std.specs.Prelude.{◌≡◌, [], ◌∷◌}
use Rattle.terms.specs.OddLots.{running}
use Rattle.oddlot.specs.Priorities.{by_priority, largest_remainder}

-- Two lots among three accounts of one lot each.
pub record TwoOfThree : Type 0 where
  pub by_running : running (1 ∷ 1 ∷ 1 ∷ []) 2 ≡ 0 ∷ 1 ∷ 1 ∷ []
  pub by_remainder : by_priority largest_remainder (1 ∷ 1 ∷ 1 ∷ []) 2 ≡ 1 ∷ 1 ∷ 0 ∷ []
