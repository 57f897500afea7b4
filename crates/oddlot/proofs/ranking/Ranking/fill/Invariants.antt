use Rattle.std.proofs.Common.{◌≡◌, take, map}
use Rattle.std.specs.List.{range_with_len}
use Rattle.oddlot.specs.Priorities.{part_by}
use Rattle.oddlot.proofs.ranking.Ranking.fill.Given as goal

abbrev pub invariant-loop-i : goal.invariant-loop-i
invariant-loop-i g l =
    take l.i l.parts ≡ map (part_by (g.P.Priority.rank l.self.priority.now) l.self.sharing.n l.self.sharing.lots.now) (range_with_len 0 l.i)
