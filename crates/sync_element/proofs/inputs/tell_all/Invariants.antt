use Rattle.std.proofs.Common.{drop}
use Rattle.sync_element.specs.private.Telling.{IsToldSoFar}
use Rattle.sync_element.proofs.inputs.tell_all.Given as goal

-- what is left of the events is still to be taken in
abbrev pub invariant-loop-event : goal.invariant-loop-event
invariant-loop-event l = IsToldSoFar l.told (drop l.event-index l.told) (record { watched = l.fn.watched; switches = l.fn.commands }) (record { watched = l.watched; switches = l.commands })
