use Rattle.std.proofs.Common.{sym, ◌∙◌}
use Rattle.settle_trace.specs.Now.{taken_now}
use Rattle.sync_sweep.proofs.RisingLemmas.{none-bounded}
use Rattle.sync_sweep.proofs.outcomes.loops_of.Goals as goal

pub returns-then-is_some : goal.returns-then-is_some
returns-then-is_some c = λ all stands.
    let net = c.args.net.now in
    none-bounded net.plan (taken_now net all) c.args.last c.args.bound (sym c.is_some.ensures ∙ c.if-is_some.true)
    c.requires.bound (c.requires.loop_free c.if-settled.true all stands)
