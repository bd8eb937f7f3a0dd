use Rattle.std.proofs.Common.{◌≡◌, false, length}
use Rattle.event_file.specs.private.Taken.{AreTaken}
use Rattle.event_file.proofs.reading.take_rows.Given as goal

-- the rows so far broke no rule, and these are their events
abbrev pub invariant-loop-events : goal.invariant-loop-events
invariant-loop-events l = AreTaken l.plan l.fn.records.left l.number l.before l.records.left l.events × (l.records.spent ≡ false)

abbrev pub decreases-loop-events : goal.decreases-loop-events
decreases-loop-events l = length l.records.left
