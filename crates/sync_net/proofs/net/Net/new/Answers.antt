use Rattle.sync_net.specs.Standing.{StandsFor}
use Rattle.sync_net.proofs.net.Net.new.Goals as goal

pub returns-clause-stands : goal.returns-clause-stands
unfolding StandsFor
returns-clause-stands c = c.in_ok-parts.ensures.stands
