use Rattle.sync_net.specs.Standing.{StandsFor}
use Rattle.sync_net.proofs.Appending.{stands-appended, stands-ordered}
use Rattle.sync_net.proofs.laws.later_events_law.Goals as goal

pub returns-clause-appended : goal.returns-clause-appended
unfolding StandsFor
returns-clause-appended c = stands-appended

pub returns-clause-ordered : goal.returns-clause-ordered
unfolding StandsFor
returns-clause-ordered c = stands-ordered
