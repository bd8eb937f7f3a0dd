use Rattle.std.proofs.Common.{drop}
use Rattle.net_words.specs.Words.{all_words}
use Rattle.net_words.specs.private.Tellings.{AreToldSoFar}
use Rattle.net_words.proofs.event_words.tell_events.Given as goal

-- what is left of the events is still to be told
abbrev pub invariant-loop-event : goal.invariant-loop-event
invariant-loop-event l = AreToldSoFar (all_words l.plan l.events) (all_words l.plan (drop l.event-index l.events)) l.fn.tellings l.tellings
