-- Both sides compute.
use Rattle.std.proofs.Common.{refl}
use Rattle.terms.specs.Rounds.{class_size, to_deliver}
use Rattle.terms.proofs.examples.rounds.Goals as goal

pub returns : goal.returns
unfolding class_size to_deliver
returns c = (refl, refl)
