use Rattle.std.proofs.Common.{◌≡◌, ◌<◌, length, ap, sym, ◌∙◌, arith}
use Rattle.std.proofs.lemmas.List.{get_or_default}
use Rattle.sync_element.specs.Kept.{unused}
use Rattle.sync_element.specs.ElementState.{inputs_of}
use Rattle.sync_element.specs.StandsFor.{StandsFor}
use Rattle.sync_element.specs.Whole.{element_state}
use Rattle.sync_element.specs.private.Whole.{watched_of}
use Rattle.sync_element.proofs.Answering.{input_level_until}
use Rattle.sync_element.proofs.element.Element.level_of.Goals as goal

pub returns-clause-level : goal.returns-clause-level
unfolding StandsFor
returns-clause-level c =
    let within : c.args.input < inputs_of (element_state c.self.inside) = rw (← c.self.view_is) at c.requires.place in
    let inside : c.args.input < length c.self.inside.inputs.watched.items = omega (arith, within, c.self.invariant.watched_length) in
    let read : watched_of (element_state c.self.inside) c.args.input ≡ c.index-as_slice-input.result = get_or_default c.self.inside.inputs.watched.items c.args.input unused c.index-as_slice-input.result inside ∙ sym (rw c.as_slice.ensures at c.index-as_slice-input.is) in
    rw (← c.self.view_is)
    (λ past n stands in_time later. ap (λ w. w.level) (sym c.index-as_slice-input.is ∙ sym read) ∙ input_level_until (element_state c.self.inside) c.self.invariant c.args.input within past n stands in_time later)
