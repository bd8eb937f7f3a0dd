use Rattle.plan_texts.specs.private.HopRows.{AreLinesFrom}
use Rattle.plan_texts.proofs.hops.lines_from.Given as goal

abbrev pub invariant-loop-number : goal.invariant-loop-number
invariant-loop-number l = AreLinesFrom l.plan l.hops l.number l.lines.items
