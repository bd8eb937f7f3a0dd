use Rattle.std.proofs.Common.{sym, ap, arith}
use Rattle.sync_topo.specs.declared.event.Event.{Event}
use Rattle.event_times.proofs.EventTimes.{in-order}
use Rattle.sync_sweep.proofs.ChunkLemmas.{got}
use Rattle.sync_sweep.proofs.cases.earlier.Goals as goal

pub returns-in-Some-clause-none : goal.returns-in-Some-clause-none
returns-in-Some-clause-none c = λ k other inside.
    let first = got c.args.events.now 0 c.in-Some.event.now other (sym c.in-Some.ensures.value) in
    omega (arith, in-order c.args.events.now c.requires.in_order 0 k other (omega arith) inside, ap (λ (e : Event). e.at) first.1)

pub returns-in_default-clause-none : goal.returns-in_default-clause-none
returns-in_default-clause-none c = λ k other inside.
    let first = got c.args.events.now 0 c.in-Some.event.now other (sym c.in-Some.ensures.value) in
    omega (arith, in-order c.args.events.now c.requires.in_order 0 k other (omega arith) inside, ap (λ (e : Event). e.at) first.1, c.if-event-begin.false)
