use Rattle.std.proofs.Common.{◌<◌, ◌++◌, ◌∷◌, [], ℕ, length, ap, ◌∙◌, refl, arith, take_all}
use Rattle.std.specs.Prelude.{slice_index}
use Rattle.event_sim.proofs.NotingLaws.{rows-more}
use Rattle.event_sim.proofs.noting.add_rows.Goals as goal

pub loop-element-preserved : goal.loop-element-preserved
loop-element-preserved c = λ other.
    let i : ℕ = c.loop-element.element-index in
    let place : ℕ = slice_index c.args.changed.now i in
    let inside : i < length c.args.changed.now = omega (arith, c.loop-element-test.true) in
    rows-more c.args.now c.args.shown.now other c.args.changed.now i place c.index-shown-element.result
    c.args.changes.now.items c.loop-element.changes.items c.push.new.self.items
    inside refl (c.requires.within i 0 inside) c.index-shown-element.is (c.loop-element.invariant other)
    (c.in_ok-push.ensures.items ∙ ap (λ row. c.loop-element.changes.items ++ row ∷ []) c.row_of.ensures)

pub returns : goal.returns
returns c = λ other. rw (take_all c.loop-element.element-index c.args.changed.now (omega (arith, c.loop-element-test.false))) at (c.loop-element.invariant other)
