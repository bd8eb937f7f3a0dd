use Rattle.std.proofs.Common.{◌<◌, arith}
use Rattle.cycle_plan.proofs.ranking.all_elements.Goals as goal

pub returns-clause-each : goal.returns-clause-each
returns-clause-each c = λ e inside.
    let end : e < c.loop-element.element = omega (arith, c.elements-element-end.ensures.count, c.loop-element-test.false) in
    (e, omega (arith, c.loop-element.invariant.0, end), c.loop-element.invariant.1 e e end)
