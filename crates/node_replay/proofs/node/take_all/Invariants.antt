use Rattle.std.specs.Prelude.{◌+◌, length, unwrap_or, option_map}
use Rattle.node_replay.proofs.Feeding.{FedSoFar}
use Rattle.node_replay.proofs.node.take_all.Given as goal

abbrev pub invariant-loop-left : goal.invariant-loop-left
invariant-loop-left l = FedSoFar (λ left. left.now) l.fn.lines l.fn.replay l.fn.piece l.lines l.replay l.left

abbrev pub decreases-loop-left : goal.decreases-loop-left
decreases-loop-left l = unwrap_or (option_map (λ left. length left.now + 1) l.left) 0
