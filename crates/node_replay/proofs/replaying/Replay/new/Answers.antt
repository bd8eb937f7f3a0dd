use Rattle.node_replay.specs.ReplayState.{StandsFor}
use Rattle.node_replay.proofs.replaying.Replay.new.Goals as goal

pub returns-clause-stands : goal.returns-clause-stands
unfolding StandsFor
returns-clause-stands c = c.in_ok-parts.ensures.stands
