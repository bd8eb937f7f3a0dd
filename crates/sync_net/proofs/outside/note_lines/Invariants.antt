use Rattle.std.proofs.Common.{drop}
use Rattle.sync_net.specs.private.Noting.{AreLinesNoted}
use Rattle.sync_net.proofs.outside.note_lines.Given as goal

-- what is left of the events is still to be noted
abbrev pub invariant-loop-event : goal.invariant-loop-event
invariant-loop-event l = AreLinesNoted l.plan l.events (drop l.event-index l.events) l.fn.lines l.lines l.fn.marks.flags l.marks.flags
