use Rattle.nominate.specs.private.Marks.{AreMarks}
use Rattle.nominate.proofs.facts.mark_all.Given as goal

abbrev pub invariant-loop-number : goal.invariant-loop-number
invariant-loop-number l = AreMarks l.plan l.hops l.number l.marks
