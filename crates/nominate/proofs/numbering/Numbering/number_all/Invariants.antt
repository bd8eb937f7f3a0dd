use Rattle.nominate.specs.private.Numbering.{IsNumbered}
use Rattle.nominate.proofs.numbering.Numbering.number_all.Given as goal

abbrev pub invariant-loop-number : goal.invariant-loop-number
invariant-loop-number l = IsNumbered l.plan l.hops l.across l.number l.fn.self l.self
