use Rattle.std.specs.Prelude.{slice_index_or}
use Rattle.sync_ql.specs.declared.rules.ClockState.TheVariants.{FreeRun}
use Rattle.net_rules.specs.Signals.{signals_by}
use Rattle.net_rules.specs.History.{out_at}
use Rattle.settle_trace.specs.Now.{now_of}
use Rattle.sync_sweep.proofs.CountLemmas.{all-counted, state-now}
use Rattle.sync_sweep.proofs.counting.states_of.Goals as goal

pub returns : goal.returns
returns c = λ all stands.
    let net = c.args.net.now in
    let signals = signals_by net.plan all in
    let element = c.element-element.result.now in
    let states = c.args.states.now in
    all-counted net.plan all (now_of net) states c.counts.result c.requires.shown.count c.counts.ensures
    (λ e within.
    state-now net.plan signals (out_at net.plan signals) e net.next (slice_index_or net.elements e element) c.requires.stepped
    (c.elements_law.ensures.stands net all net.next e element stands within) (slice_index_or states e FreeRun) (c.requires.shown.each e element FreeRun within).is)
