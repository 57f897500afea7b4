use Rattle.terms.proofs.Drawn.{round_pairs}
use Rattle.terms.proofs.facts.round_pairs.Goals as goal

pub returns : goal.returns
returns c = round_pairs
