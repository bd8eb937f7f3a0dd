use Rattle.std.proofs.Common.{◌<◌, length, sym, ◌∙◌, arith}
use Rattle.cycle_plan.proofs.FailureLemmas.{planned-none, planned-some}
use Rattle.cycle_plan.proofs.failures.is_planned.Goals as goal

pub returns-then-has_level : goal.returns-then-has_level
returns-then-has_level c =
    let within : c.loop-source.source < length c.args.plan.now.sources = omega (arith, c.loop-source-test.true, c.loop-source.auto.source-end, c.sources-source-end.ensures.count) in
    sym (planned-some c.args.plan.now c.args.place c.loop-source.source within (sym c.has_level.ensures ∙ c.if-has_level.true))

pub returns : goal.returns
returns c =
    sym (planned-none c.args.plan.now c.args.place
    (λ source within. c.loop-source.invariant source (omega (arith, within, c.loop-source-test.false, c.loop-source.auto.source-end, c.sources-source-end.ensures.count))))
