-- A layer of named days over a calendar. Assumes nothing.
use Rattle.std.specs.Prelude.{ℕ, ◌≤◌, List, length}

-- The calendar below, and the days that are named, in the order in which they were, of which there are at most 64.
pub record Layer (C : Type 0) : Type 0 where
  pub below : C
  pub named : List ℕ
  pub few : length named ≤ 64
