use Rattle.std.proofs.Common.{arith}
use Rattle.node_replay.proofs.Going.{going-stands, came-to, away-later}
use Rattle.node_replay.proofs.running.NodeRun.advance.Goals as goal

pub loop-alloc-preserved : goal.loop-alloc-preserved
loop-alloc-preserved c =
    let before = c.loop-alloc.invariant in
    let going = c.goes_on.ensures.going c.loop-alloc-test.true in
    record {
      run = c.in_ok-go_on.ensures.run;
      later = (let was = before.later in let next = c.in_ok-go_on.ensures.next in omega (arith, was, next));
      up_to = c.in_ok-go_on.ensures.up_to;
      holds = λ rows until away room stands.
          c.in_ok-go_on.ensures.holds rows until
          (away-later c.args.plan.now c.args.element c.args.self.now.next c.loop-alloc.self.next c.args.to rows before.later away) room
          (going-stands c.args.plan.now c.args.element until c.loop-alloc.self.next rows c.loop-alloc.self going (before.holds rows until away room stands));
    }

pub returns-clause-next : goal.returns-clause-next
returns-clause-next c = λ going.
    let end = c.goes_on.ensures.ended c.loop-alloc-test.false going in
    let up_to = c.loop-alloc.invariant.up_to in
    omega (arith, end, up_to)

pub returns-clause-holds : goal.returns-clause-holds
returns-clause-holds c = λ rows until away room stands.
    came-to c.args.plan.now c.args.element until c.loop-alloc.self.next c.args.to rows _ (λ going.
    (let end = c.goes_on.ensures.ended c.loop-alloc-test.false going in
    let up_to = c.loop-alloc.invariant.up_to in
    omega (arith, end, up_to)))
    (c.loop-alloc.invariant.holds rows until away room stands)
