use Rattle.std.proofs.Common.{◌≡◌, subst, arith}
use Rattle.sync_topo.specs.Lines.{line_count}
use Rattle.cycle_plan.specs.private.Latest.{AreDelaysInto}
use Rattle.cycle_plan.proofs.times.delays_into.Goals as goal

pub returns : goal.returns
returns c =
    let all : c.loop-number.number ≡ line_count c.args.plan.now = omega (arith, c.loop-number-test.false, c.loop-number.auto.number-end, c.lines-number-end.ensures.count) in
    subst (λ n. AreDelaysInto c.args.plan.now n c.loop-number.delays.items) all c.loop-number.invariant
