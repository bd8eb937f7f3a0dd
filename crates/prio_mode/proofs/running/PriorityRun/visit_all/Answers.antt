use Rattle.std.proofs.Common.{◌<◌, ℕ, List, length, slice_index, take, sym, subst, arith}
use Rattle.std.proofs.lemmas.List.{take_more}
use Rattle.agenda.proofs.MarkedPlaces.{not_before}
use Rattle.prio_mode.specs.private.Visiting.{CanStep, AreVisited}
use Rattle.prio_mode.proofs.Turning.{walk-next}
use Rattle.prio_mode.proofs.running.PriorityRun.visit_all.Goals as goal

pub visit-requires-clause-can_step : goal.visit-requires-clause-can_step
visit-requires-clause-can_step c =
    let order : List ℕ = c.args.order.now in
    let i : ℕ = c.loop-element.element-index in
    let inside : i < length order = omega (arith, c.loop-element-test.true) in
    subst (CanStep c.args.plan.now c.args.now (slice_index order i))
    (sym (c.loop-element.invariant.others (slice_index order i)
    (not_before i order c.requires.apart inside)))
    (c.requires.can_step (slice_index order i) (c.requires.within i 0 inside))

pub loop-element-preserved : goal.loop-element-preserved
loop-element-preserved c =
    let order : List ℕ = c.args.order.now in
    let i : ℕ = c.loop-element.element-index in
    let inside : i < length order = omega (arith, c.loop-element-test.true) in
    subst (λ done. AreVisited c.args.plan.now c.args.now done c.args.self.now c.visit.new.self
    c.args.text.now c.visit.new.text) (sym (take_more order i 0 inside))
    (walk-next c.args.plan.now c.args.now (slice_index order i) (take i order)
    c.args.self.now c.loop-element.self c.visit.new.self c.args.text.now c.loop-element.text
    c.visit.new.text
    (not_before i order c.requires.apart inside) c.loop-element.invariant c.in_ok-visit.ensures)
