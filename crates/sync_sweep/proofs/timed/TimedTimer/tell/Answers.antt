use Rattle.std.proofs.Common.{◌≡◌, length, ap, sym, subst, ◌∙◌, arith}
use Rattle.sync_topo.specs.WellFormed.{IsWellFormed}
use Rattle.closed_walks.specs.Taking.{taken_in_list}
use Rattle.settle_trace.specs.Now.{taken_now}
use Rattle.settle_trace.specs.Taking.{AreTaking}
use Rattle.settle_trace.proofs.TakenLaws.{taking-now}
use Rattle.timings.specs.Timing.{IsTiming}
use Rattle.timings.proofs.FoundLemmas.{timing-same}
use Rattle.sync_sweep.proofs.TimedLemmas.{written}
use Rattle.sync_sweep.proofs.timed.TimedTimer.tell.Goals as goal

pub returns-then-not-differs-clause-told : goal.returns-then-not-differs-clause-told
returns-then-not-differs-clause-told c = λ all stands.
    let net = c.args.net.now in
    let list = c.args.self.now.taken.items in
    let well : IsWellFormed net.plan = subst IsWellFormed c.plan.ensures c.elements-elements.ensures.well_formed in
    let same : c.as_slice.result.now ≡ list = c.as_slice.ensures.value ∙ c.requires.timer.same in
    let taking : AreTaking net list =
    subst (AreTaking net) same
    (c.differs.ensures c.if-not-differs.true c.args._base.now c.requires.plan (subst (AreTaking c.args._base.now) (sym same) c.requires.timer.taken) c.requires.alike) in
    timing-same net.plan (taken_in_list list) (taken_now net all) c.args.self.now.timing
    (taking-now net list c.element-element.result.now well c.requires.stepped taking all
    (λ k within. c.elements_law.ensures.stands net all net.next k c.element-element.result.now stands within))
    (subst (λ plan. IsTiming plan (taken_in_list list) c.args.self.now.timing) c.requires.plan c.requires.timer.timing)

pub returns-clause-told : goal.returns-clause-told
returns-clause-told c = λ all stands.
    let net = c.args.net.now in
    let base = c.args._base.now in
    let now = c.note_taken.new.taken in
    let timing = c.in_ok-timing.timing in
    let well : IsWellFormed net.plan = subst IsWellFormed c.plan.ensures c.elements-elements.ensures.well_formed in
    let same : c.as_mut_slice.result.now ≡ c.args.self.now.taken.items = c.as_mut_slice.ensures.value ∙ c.requires.timer.same in
    let taking : AreTaking net now =
    c.note_taken.ensures.taking base c.requires.plan (subst (AreTaking base) (sym same) c.requires.timer.taken) c.requires.alike in
    let is : IsTiming net.plan (taken_in_list now) timing =
    subst (λ plan. IsTiming plan (taken_in_list now) timing) c.plan-2.ensures
    (subst (λ list. IsTiming c.plan-2.result.now (taken_in_list list) timing)
    (c.as_slice-2.ensures.value
    ∙ written c.args.self.now.now.len now c.args.self.now.now.items
    (omega (arith, c.note_taken.ensures.own.count, c.requires.timer.taken.own.count, ap (λ p. length p.elements) c.requires.plan, ap length c.requires.timer.same, c.as_mut_slice.ensures.len, ap length c.as_mut_slice.ensures.value)))
    c.in_ok-timing.ensures.timing) in
    timing-same net.plan (taken_in_list now) (taken_now net all) timing
    (taking-now net now c.element-element.result.now well c.requires.stepped taking all
    (λ k within. c.elements_law.ensures.stands net all net.next k c.element-element.result.now stands within))
    is
