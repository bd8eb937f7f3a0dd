use Rattle.std.proofs.Common.{◌≡◌, ◌<◌, length, subst, arith}
use Rattle.sync_ql.specs.Level.{place_of}
use Rattle.sync_ql.specs.Table.{levels_of}
use Rattle.cycle_plan.proofs.AgreedLemmas.{high-more, high-all}
use Rattle.cycle_plan.proofs.agreement.high_levels.Goals as goal

pub loop-element-preserved : goal.loop-element-preserved
loop-element-preserved c =
    let own = c.element.ensures.fits.own_is_clock_level in
    let row : place_of c.element.result.now.own < length (levels_of c.args.plan.now.option) =
    subst (λ o. place_of c.element.result.now.own < length (levels_of o)) own.of_option c.element.result.now.own.is_row in (
      rw (c.lesser-high.ensures, c.from.ensures)
          (high-more c.args.plan.now c.loop-element.element c.loop-element.high c.element.result.now c.element.ensures.element row c.loop-element.invariant.0),
      omega (arith, c.lesser-high.ensures, c.loop-element.invariant.1),
    )

pub returns-clause-high : goal.returns-clause-high
returns-clause-high c =
    let all : c.loop-element.element ≡ length c.args.plan.now.elements = omega (arith, c.loop-element-test.false, c.loop-element.auto.element-end, c.elements-element-end.ensures.count) in
    high-all c.args.plan.now c.loop-element.high (rw (← all) c.loop-element.invariant.0)
