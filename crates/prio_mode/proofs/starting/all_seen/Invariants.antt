use Rattle.net_words.specs.NewElements.{AreEach}
use Rattle.prio_mode.specs.private.Running.{IsNewSeen}
use Rattle.prio_mode.proofs.starting.all_seen.Given as goal

-- the elements so far
abbrev pub invariant-loop-element : goal.invariant-loop-element
invariant-loop-element l = AreEach (IsNewSeen l.plan) l.element l.seen
