use Rattle.terms.proofs.Running.{running_keeps}
use Rattle.terms.proofs.facts.running_keeps.Goals as goal

pub returns : goal.returns
returns c = running_keeps
