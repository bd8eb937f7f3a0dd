use Rattle.sync_element.specs.Kept.{dues_of}
use Rattle.sync_element.specs.private.FirstTime.{IsFirstSoFar}
use Rattle.sync_element.proofs.inputs.first_due.Given as goal

-- the first of the times up to here
abbrev pub invariant-loop-input : goal.invariant-loop-input
invariant-loop-input l = IsFirstSoFar (dues_of l.inputs.watched.items) l.input-index l.first
