use Rattle.sync_element.specs.StandsFor.{StandsFor}
use Rattle.sync_element.specs.Whole.{inputs_kept}
use Rattle.sync_element.proofs.Beginning.{IsNewState, IsWhole-new, IsAfter-new}
use Rattle.sync_element.proofs.element.Element.new.Goals as goal

pub invariant_of-result : goal.invariant_of-result
invariant_of-result c =
    let new : IsNewState c.args.config (inputs_kept c.in_ok-inputs.inputs) c.new-commands.result = record {
      holdoff = c.requires.not_short;
      few = c.requires.few;
      floor = c.requires.floor;
      first = c.requires.first;
      new = c.in_ok-inputs.ensures;
      switches_are = rw c.as_slice.ensures at c.new-commands.ensures.empty;
    } in
    IsWhole-new c.args.config (inputs_kept c.in_ok-inputs.inputs) c.new-commands.result new

pub returns-clause-stands : goal.returns-clause-stands
unfolding StandsFor
returns-clause-stands c =
    let new : IsNewState c.args.config (inputs_kept c.in_ok-inputs.inputs) c.new-commands.result = record {
      holdoff = c.requires.not_short;
      few = c.requires.few;
      floor = c.requires.floor;
      first = c.requires.first;
      new = c.in_ok-inputs.ensures;
      switches_are = rw c.as_slice.ensures at c.new-commands.ensures.empty;
    } in
    IsAfter-new c.args.config (inputs_kept c.in_ok-inputs.inputs) c.new-commands.result new
