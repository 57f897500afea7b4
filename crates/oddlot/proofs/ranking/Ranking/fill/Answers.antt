use Rattle.std.proofs.Common.{arith}
use Rattle.std.proofs.lemmas.List.{take_more_set}
use Rattle.std.proofs.lemmas.List.FromFn.{map-range_with_len_more}
use Rattle.oddlot.specs.Priorities.{part_by}
use Rattle.oddlot.proofs.ranking.Ranking.fill.Goals as goal

pub loop-i-preserved : goal.loop-i-preserved
loop-i-preserved g c =
    let s = c.args.self.now.sharing in
    let i = c.loop-i.i in
    let written = take_more_set c.loop-i.parts i c.part.result (omega arith) in
    let given = map-range_with_len_more (part_by (g.P.Priority.rank c.args.self.now.priority.now) s.n s.lots.now) 0 i i (omega arith) in
    cc
