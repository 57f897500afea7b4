use Rattle.terms.proofs.Drawn.{few_legs}
use Rattle.terms.proofs.facts.few_legs.Goals as goal

pub returns : goal.returns
returns c = few_legs
