use Rattle.std.proofs.Common.{sym, subst, ◌∙◌}
use Rattle.sync_topo.specs.Lines.{IsNominated}
use Rattle.settle_trace.specs.Now.{signals_of, out_of}
use Rattle.settle_trace.proofs.LineLaws.{line-answer}
use Rattle.settle_trace.proofs.NetLaws.{last-is}
use Rattle.settle_trace.proofs.settling.is_line_settled.Goals as goal

pub returns-in-Some : goal.returns-in-Some
returns-in-Some c = λ all stands.
    let net = c.args.net.now in
    let answers = line-answer net.plan (signals_of net all) (out_of net all) c.args.line.0 net.next c.in-Some.now c.line.result.now c.is_at_rest.result
    (last-is net.next c.in-Some.now c.now.result c.in-Some.is c.now.ensures) (c.line.ensures.stands all net.next stands) c.is_at_rest.ensures.rest c.is_at_rest.ensures.next in
    (λ says nominated. answers.0 says, λ settled. answers.1 (settled (subst (λ p. IsNominated p c.args.line.0) c.plan.ensures (sym c.nominated.ensures.nominated ∙ c.if-nominated.true))))
