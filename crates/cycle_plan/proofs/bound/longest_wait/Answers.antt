use Rattle.std.proofs.Common.{◌≡◌, length, arith}
use Rattle.cycle_plan.proofs.BoundLemmas.{wait-more, wait-all}
use Rattle.cycle_plan.proofs.bound.longest_wait.Goals as goal

pub loop-element-preserved : goal.loop-element-preserved
loop-element-preserved c =
    let fits = c.element.ensures.fits in
    let minutes = fits.whole_minutes in (
      rw (c.greater-longest.ensures, c.longer_time.ensures)
          (wait-more c.args.plan.now c.args.delay c.loop-element.element c.loop-element.longest c.element.result.now c.element.ensures.element c.loop-element.invariant.0),
      omega (arith, c.greater-longest.ensures, c.longer_time.ensures, c.loop-element.invariant.1, fits.greatest_holdoff, minutes.1, minutes.2),
    )

pub returns-clause-longest : goal.returns-clause-longest
returns-clause-longest c =
    let all : c.loop-element.element ≡ length c.args.plan.now.elements = omega (arith, c.loop-element-test.false, c.loop-element.auto.element-end, c.elements-element-end.ensures.count) in
    wait-all c.args.plan.now c.args.delay c.loop-element.longest (rw (← all) c.loop-element.invariant.0)
