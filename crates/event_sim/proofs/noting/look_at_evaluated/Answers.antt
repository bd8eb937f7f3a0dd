use Rattle.std.proofs.Common.{◌≡◌, ◌<◌, ◌+◌, ℕ, List, false, ◌||◌, length, take, ap, sym, subst, ◌∙◌, arith}
use Rattle.std.specs.Prelude.{nat_eq, slice_index, slice_index_or, if◌then◌else◌, ◌++◌, ◌∷◌, []}
use Rattle.std.specs.List.{list_any}
use Rattle.std.proofs.lemmas.List.Folds.{list_any_more}
use Rattle.agenda.proofs.MarkedPlaces.{not_before}
use Rattle.sync_element.specs.ElementState.{ElementState}
use Rattle.event_sim.specs.declared.shown.Shown.{Shown}
use Rattle.event_sim.specs.private.Showing.{Shows}
use Rattle.event_sim.proofs.NotingLaws.{seen-none, seen-more}
use Rattle.event_sim.proofs.noting.look_at_evaluated.Goals as goal

pub loop-element-init : goal.loop-element-init
loop-element-init c = seen-none c.args.net.now c.args.shown.now.items c.args.changed.now.items c.requires.empty

pub loop-element-preserved : goal.loop-element-preserved
loop-element-preserved c =
    let places : List ℕ = c.args.net.now.evaluated in
    let items : List ℕ = c.evaluated-element-items.result.now in
    let i : ℕ = c.loop-element.element-index in
    let same : items ≡ places = c.evaluated-element-items.ensures in
    let inside : i < length places = omega (arith, c.loop-element-test.true, ap length same) in
    let at : slice_index items i ≡ slice_index places i = ap (λ xs. slice_index xs i) same in
    let now : Shown = c.shown_of-now.result in
    let shows : (other : ElementState) → Shows c.args.net.now.plan (slice_index items i) (slice_index_or c.args.net.now.elements (slice_index items i) other) now =
    λ other. subst (λ element. Shows c.args.net.now.plan (slice_index items i) element now) (c.element.ensures.element other)
    (subst (λ plan. Shows plan (slice_index items i) c.element.result.now now) c.plan.ensures c.shown_of-now.ensures) in
    seen-more c.args.net.now (take i places) (take (i + 1) places) c.args.shown.now.items c.loop-element.shown.items c.loop-element.changed.items c.list_if.new.listed.items
    (slice_index items i) c.index-was.result.now now
    (λ e. list_any_more (nat_eq e) places i 0 inside ∙ ap (λ k. list_any (nat_eq e) (take i places) || nat_eq e k) (sym at))
    (subst (λ k. list_any (nat_eq k) (take i places) ≡ false) (sym at) (not_before i places c.requires.after_step.apart inside))
    (omega (arith, c.requires.after_step.within i 0 inside, at, c.loop-element.invariant.renewed.count, c.requires.after_step.count))
    c.index-was.ensures
    shows
    (c.in_ok-list_if.ensures ∙ ap (λ told. if told then c.loop-element.changed.items ++ slice_index items i ∷ [] else c.loop-element.changed.items) c.shows_other.ensures)
    c.loop-element.invariant
