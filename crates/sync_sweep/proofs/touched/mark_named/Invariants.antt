use Rattle.std.proofs.Common.{take}
use Rattle.sync_sweep.specs.private.Branching.{AreMarksOf, AreEventsNamed}
use Rattle.sync_sweep.proofs.touched.mark_named.Given as goal

-- what the events behind name is marked
abbrev pub invariant-loop-event : goal.invariant-loop-event
invariant-loop-event l = record {
  marks : AreMarksOf l.plan l.touched;
  named : AreEventsNamed (take l.event-index l.events) l.fn.touched l.touched;
}
