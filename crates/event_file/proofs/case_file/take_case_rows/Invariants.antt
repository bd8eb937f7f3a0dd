use Rattle.std.proofs.Common.{◌≡◌, false, length}
use Rattle.event_file.specs.private.CasesTaken.{AreCasesLeft}
use Rattle.event_file.proofs.case_file.take_case_rows.Given as goal

-- the rows so far broke no rule, and what is kept is what they gave
abbrev pub invariant-loop-kept : goal.invariant-loop-kept
invariant-loop-kept l = AreCasesLeft l.plan l.fn.records.left l.records.left l.kept × (l.records.spent ≡ false)

abbrev pub decreases-loop-kept : goal.decreases-loop-kept
decreases-loop-kept l = length l.records.left
