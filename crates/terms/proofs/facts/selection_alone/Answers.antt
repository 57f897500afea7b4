use Rattle.terms.proofs.Alone.{selection_alone}
use Rattle.terms.proofs.facts.selection_alone.Goals as goal

pub returns : goal.returns
returns c = selection_alone
