-- How a replay is seen, and what is true of every one.
use Rattle.node_replay.specs.declared.replaying.Replay.TheInside.{Inside}
use Rattle.node_replay.specs.ReplayState.{ReplayState}

abbrev pub replay_state : Inside → ReplayState
replay_state r = record { plan = r.plan.now; element = r.parts.element; until = r.parts.until; spent = r.spent; kept = r.parts }
