use Rattle.std.proofs.Common.{◌≡◌, ◌≤◌, ◌+◌, false, length}
use Rattle.node_tests.proofs.node_replay_tests.fed.Given as goal

-- it is fed on, and no more lines have ended than bytes were fed
abbrev pub invariant-loop-left : goal.invariant-loop-left
invariant-loop-left l = record {
  live : l.node.spent ≡ false;
  room : l.node.lines.ended + length l.left ≤ length l.bytes;
}

abbrev pub decreases-loop-left : goal.decreases-loop-left
decreases-loop-left l = length l.left
