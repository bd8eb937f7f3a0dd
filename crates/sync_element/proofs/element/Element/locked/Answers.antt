use Rattle.std.proofs.Common.{◌∙◌}
use Rattle.sync_element.specs.StandsFor.{StandsFor}
use Rattle.sync_element.specs.Whole.{element_state}
use Rattle.sync_element.proofs.Answering.{locked_until}
use Rattle.sync_element.proofs.element.Element.locked.Goals as goal

pub returns : goal.returns
unfolding StandsFor
returns c = record {
  locked =
      rw (← c.self.view_is)
      (λ past n stands in_time. c.locked.ensures.value ∙ locked_until (element_state c.self.inside) c.self.invariant c.args.input past n stands in_time);
}
