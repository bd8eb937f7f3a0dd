use Rattle.node_replay.proofs.Feeding.{fed_nothing}
use Rattle.node_replay.proofs.node.Node.new.Goals as goal

pub returns-clause-fed : goal.returns-clause-fed
returns-clause-fed c = fed_nothing c.new-2.result c.in_ok-replay.replay c.new-2.ensures.read c.in_ok-replay.ensures.stands
