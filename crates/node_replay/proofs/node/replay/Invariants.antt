use Rattle.std.proofs.Common.{length}
use Rattle.node_replay.proofs.Feeding.{FedFront}
use Rattle.node_replay.proofs.node.replay.Given as goal

abbrev pub invariant-loop-left : goal.invariant-loop-left
invariant-loop-left l = FedFront l.plan l.element l.until l.bytes l.node l.left

abbrev pub decreases-loop-left : goal.decreases-loop-left
decreases-loop-left l = length l.left
