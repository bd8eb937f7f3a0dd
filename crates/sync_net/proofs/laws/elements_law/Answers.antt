use Rattle.sync_net.specs.Standing.{StandsFor}
use Rattle.sync_net.proofs.laws.elements_law.Goals as goal

pub returns : goal.returns
unfolding StandsFor
returns c = record { stands = λ net events n element other is within. is.elements element other within }
