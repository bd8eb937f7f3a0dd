use Rattle.std.proofs.Common.{◌≤◌, ◌+◌, ◌-◌, ℕ, List}
use Rattle.node_file.specs.declared.row.NodeRow.{NodeRow}
use Rattle.node_replay.specs.Running.{RunStands, RunHolds}
use Rattle.node_replay.specs.private.Running.{IsRun, AreAway}
use Rattle.node_replay.proofs.running.NodeRun.advance.Given as goal

-- all before the next millisecond was made
abbrev pub invariant-loop-alloc : goal.invariant-loop-alloc
invariant-loop-alloc l = record {
  run : IsRun l.plan l.element l.self;
  later : l.fn.self.next ≤ l.self.next;
  up_to : l.self.next ≤ l.to;
  holds : (rows : List NodeRow) (until : ℕ) → AreAway l.plan l.element l.fn.self.next l.to rows → l.to ≤ until + 1
      → RunStands l.plan rows l.element l.fn.self.next l.fn.self → RunHolds l.plan rows l.element until l.self.next l.self l.self.stopped;
}

abbrev pub decreases-loop-alloc : goal.decreases-loop-alloc
decreases-loop-alloc l = l.to - l.self.next
