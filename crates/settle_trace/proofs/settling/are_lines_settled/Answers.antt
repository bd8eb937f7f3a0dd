use Rattle.std.proofs.Common.{◌-◌, ap, arith, refl}
use Rattle.sync_topo.specs.Lines.{line_count, IsNominated}
use Rattle.sync_topo.proofs.LineLaws.{IsNominated-within}
use Rattle.settle_trace.specs.Now.{signals_of, out_of}
use Rattle.settle_trace.specs.private.Resting.{IsLineSettled}
use Rattle.settle_trace.proofs.NetLaws.{one-more}
use Rattle.settle_trace.proofs.settling.are_lines_settled.Goals as goal

pub loop-number-preserved : goal.loop-number-preserved
loop-number-preserved c = λ all stands.
    let net = c.args.net.now in
    one-more (λ k. IsNominated net.plan k → IsLineSettled net.plan (signals_of net all) (out_of net all) (net.next - 1) k) c.loop-number.number
    (c.loop-number.invariant all stands) ((c.is_line_settled.ensures all stands).0 c.if-not-is_line_settled.false)

pub returns : goal.returns
returns c = λ all stands.
    let net = c.args.net.now in (
      λ _ line nominated. c.loop-number.invariant all stands line
          (omega (arith, IsNominated-within net.plan line nominated, c.loop-number-test.false, c.lines-number-end.ensures.count, ap line_count c.plan.ensures)) nominated,
      λ _. refl,
    )
