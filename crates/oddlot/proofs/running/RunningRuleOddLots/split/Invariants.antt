use Rattle.std.proofs.Common.{◌≡◌, ◌++◌, take, drop, sum}
use Rattle.terms.specs.OddLots.{running, running_from}
use Rattle.oddlot.proofs.running.RunningRuleOddLots.split.Given as goal

abbrev pub invariant-loop-i : goal.invariant-loop-i
invariant-loop-i l =
    (l.before ≡ sum (take l.i l.lots)) × (take l.i l.parts ++ running_from l.n (sum l.lots) l.before (drop l.i l.lots) ≡ running l.lots l.n)
