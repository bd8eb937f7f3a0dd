use Rattle.cycle_plan.specs.private.Tops.{IsTop}
use Rattle.cycle_plan.proofs.top.top_of.Given as goal

abbrev pub invariant-loop-place : goal.invariant-loop-place
invariant-loop-place l = IsTop l.returns l.plan l.cert l.inputs l.place l.top
