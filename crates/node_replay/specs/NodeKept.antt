-- How an element that is replayed is seen, and what is true of every one that isn't spent.
use Rattle.node_replay.specs.declared.node.Node.TheInside.{Inside}
use Rattle.node_replay.specs.NodeState.{NodeState}

abbrev pub node_state : Inside → NodeState
node_state n = record { lines = n.lines; replay = n.replay; spent = n.spent }
