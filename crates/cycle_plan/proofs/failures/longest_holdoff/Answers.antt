use Rattle.std.proofs.Common.{◌≡◌, length, arith}
use Rattle.cycle_plan.proofs.FailureLemmas.{holdoff-more, holdoff-all}
use Rattle.cycle_plan.proofs.failures.longest_holdoff.Goals as goal

pub loop-element-preserved : goal.loop-element-preserved
loop-element-preserved c = (
  rw (c.greater-longest.ensures, c.from.ensures)
      (holdoff-more c.args.plan.now c.loop-element.element c.loop-element.longest c.element.result.now c.element.ensures.element c.loop-element.invariant.0),
  omega (arith, c.greater-longest.ensures, c.from.ensures, c.loop-element.invariant.1, c.element.ensures.fits.greatest_holdoff),
)

pub returns-clause-greatest : goal.returns-clause-greatest
returns-clause-greatest c =
    let all : c.loop-element.element ≡ length c.args.plan.now.elements = omega (arith, c.loop-element-test.false, c.loop-element.auto.element-end, c.elements-element-end.ensures.count) in
    holdoff-all c.args.plan.now c.loop-element.longest (rw (← all) c.loop-element.invariant.0)
