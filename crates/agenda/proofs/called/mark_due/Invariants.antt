use Rattle.agenda.specs.DueTimes.{due_count}
use Rattle.agenda.specs.Called.{AreDueMarked}
use Rattle.agenda.proofs.called.mark_due.Given as goal

-- what was taken out is marked
abbrev pub invariant-loop-place : goal.invariant-loop-place
invariant-loop-place l = AreDueMarked l.now l.fn.dues l.dues l.fn.marks.flags l.marks.flags

abbrev pub decreases-loop-place : goal.decreases-loop-place
decreases-loop-place l = due_count l.dues
