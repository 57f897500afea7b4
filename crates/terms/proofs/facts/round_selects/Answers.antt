use Rattle.terms.proofs.Told.{round_selects}
use Rattle.terms.proofs.facts.round_selects.Goals as goal

pub returns : goal.returns
returns c = round_selects
