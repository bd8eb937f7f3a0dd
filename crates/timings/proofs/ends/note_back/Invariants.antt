use Rattle.closed_walks.specs.Taking.{taken_in_list}
use Rattle.timings.specs.private.Ends.{AreEndsNoted}
use Rattle.timings.proofs.ends.note_back.Given as goal

abbrev pub invariant-loop-element : goal.invariant-loop-element
invariant-loop-element l = AreEndsNoted l.plan (taken_in_list l.taken) l.known l.lines l.lost
