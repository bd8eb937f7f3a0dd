use Rattle.std.proofs.Common.{◌≡◌, ◌+◌, length}
use Rattle.agenda.specs.DueTimes.{due_count}
use Rattle.sync_net.specs.private.Stages.{AreDueMarked}
use Rattle.sync_net.proofs.marking.mark_due.Given as goal

abbrev pub invariant-loop-object : goal.invariant-loop-object
invariant-loop-object l = record {
  elements_count : length l.elements.flags ≡ l.count;
  objects : length l.dues ≡ l.count + length l.lines.flags;
  marked : AreDueMarked l.now l.count
      (record { dues = l.fn.dues; elements = l.fn.elements.flags; lines = l.fn.lines.flags })
      (record { dues = l.dues; elements = l.elements.flags; lines = l.lines.flags });
}

abbrev pub decreases-loop-object : goal.decreases-loop-object
decreases-loop-object l = due_count l.dues
