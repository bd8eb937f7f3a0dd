use Rattle.std.proofs.Common.{◌≡◌, false, length}
use Rattle.group_file.specs.private.GroupsTaken.{AreGroupsLeft}
use Rattle.group_file.proofs.reading.take_rows.Given as goal

-- the rows so far broke no rule, and what is kept is what they gave
abbrev pub invariant-loop-kept : goal.invariant-loop-kept
invariant-loop-kept l = AreGroupsLeft l.plan l.fn.records.left l.records.left l.kept × (l.records.spent ≡ false)

abbrev pub decreases-loop-kept : goal.decreases-loop-kept
decreases-loop-kept l = length l.records.left
