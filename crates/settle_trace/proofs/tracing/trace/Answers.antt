use Rattle.std.proofs.Common.{ℕ, List, subst}
use Rattle.std.proofs.lemmas.Result.{IfOk-weaker}
use Rattle.sync_topo.specs.declared.event.Event.{Event}
use Rattle.sync_topo.specs.Hops.{IsRising}
use Rattle.sync_topo.specs.WellFormed.{IsWellFormed}
use Rattle.net_rules.specs.History.{level_at}
use Rattle.net_rules.specs.Safety.{IsEndLevel}
use Rattle.net_rules.specs.Walks.{IsTrace}
use Rattle.sync_net.specs.Standing.{StandsFor}
use Rattle.closed_walks.specs.declared.traced.Traced.{Traced}
use Rattle.settle_trace.specs.Now.{now_of, signals_of, out_of, taken_now, IsSettledNow}
use Rattle.closed_walks.specs.Taking.{taken_in_list}
use Rattle.sync_topo.specs.Lines.{numbers}
use Rattle.closed_walks.specs.Traces.{end_of}
use Rattle.settle_trace.proofs.TracedNow.{trace-now}
use Rattle.settle_trace.proofs.tracing.trace.Goals as goal

pub returns-clause-exact : goal.returns-clause-exact
returns-clause-exact c =
    let net = c.args.net.now in
    IfOk-weaker c.trace_in.result
    (λ (traced : Traced). IsTrace c.plan.result.now (taken_in_list c.as_slice.result.now) c.args.element (numbers traced.lines) (end_of traced.end))
    (λ (traced : Traced). (all : List Event) → StandsFor net all net.next → IsTrace net.plan (taken_now net all) c.args.element (numbers traced.lines) (end_of traced.end))
    (λ (traced : Traced) is. trace-now net c.plan.result.now c.as_slice.result.now c.in_ok-taken.taken.items c.args.element (numbers traced.lines) (end_of traced.end)
    c.plan.ensures c.as_slice.ensures.value (c.in_ok-taken.ensures.now c.requires.stepped) is)
    c.trace_in.ensures.exact

pub returns-clause-traced : goal.returns-clause-traced
returns-clause-traced c =
    let net = c.args.net.now in
    let well : IsWellFormed net.plan = subst IsWellFormed c.plan.ensures c.trace_in.ensures.well_formed in
    IfOk-weaker c.trace_in.result
    (λ (traced : Traced). IsTrace c.plan.result.now (taken_in_list c.as_slice.result.now) c.args.element (numbers traced.lines) (end_of traced.end))
    (λ (traced : Traced). (all : List Event) (rank : ℕ → ℕ) → StandsFor net all net.next → IsRising net.plan rank → IsSettledNow net all
    → IsEndLevel net.plan (signals_of net all) (now_of net) (level_at net.plan (signals_of net all) (out_of net all) c.args.element (now_of net)) (end_of traced.end))
    (λ (traced : Traced) is all rank stands rising settled.
    (c.rising_law.ensures.obeying net.plan (signals_of net all) (out_of net all) rank well (c.history_law.ensures.obeys net.plan (signals_of net all) well) rising (now_of net)).traced
    settled c.args.element (numbers traced.lines) (end_of traced.end)
    (trace-now net c.plan.result.now c.as_slice.result.now c.in_ok-taken.taken.items c.args.element (numbers traced.lines) (end_of traced.end)
    c.plan.ensures c.as_slice.ensures.value (c.in_ok-taken.ensures.now c.requires.stepped) is all stands))
    c.trace_in.ensures.exact
