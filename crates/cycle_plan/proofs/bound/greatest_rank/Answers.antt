use Rattle.std.proofs.Common.{◌≡◌, arith}
use Rattle.sync_topo.specs.Lines.{line_count}
use Rattle.cycle_plan.proofs.BoundLemmas.{rank-more}
use Rattle.cycle_plan.proofs.bound.greatest_rank.Goals as goal

pub loop-number-preserved : goal.loop-number-preserved
loop-number-preserved c =
    rw (c.greater-greatest.ensures, c.unwrap_or.ensures, c.rank.ensures.rank)
    (rank-more c.args.plan.now c.args.cert.now c.loop-number.number c.loop-number.greatest c.loop-number.invariant)

pub returns-clause-greatest : goal.returns-clause-greatest
returns-clause-greatest c =
    let all : c.loop-number.number ≡ line_count c.args.plan.now = omega (arith, c.loop-number-test.false, c.loop-number.auto.number-end, c.lines-number-end.ensures.count) in
    rw (← all) c.loop-number.invariant
