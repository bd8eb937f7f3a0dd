use Rattle.settle_trace.specs.Now.{now_of, signals_of, out_of}
use Rattle.settle_trace.proofs.NetLaws.{settled-by, settled-line}
use Rattle.settle_trace.proofs.settling.is_settled.Goals as goal

pub returns-then-steady-clause-exact : goal.returns-then-steady-clause-exact
returns-then-steady-clause-exact c = λ all stands.
    let net = c.args.net.now in
    let news = c.settled_law.ensures.news net.plan (signals_of net all) (out_of net all) (now_of net) in (
      λ says. news.0 (settled-by net.plan (signals_of net all) (out_of net all) (now_of net)
          ((c.are_inputs_steady-steady.ensures.steady all stands).0 c.if-steady.true) ((c.are_lines_settled-settled.ensures all stands).0 says)),
      λ settled. (c.are_lines_settled-settled.ensures all stands).1 (λ line nominated.
          settled-line net.plan (signals_of net all) (out_of net all) (now_of net) line (news.1 settled) nominated),
    )
