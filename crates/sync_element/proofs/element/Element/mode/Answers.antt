use Rattle.sync_element.specs.StandsFor.{StandsFor}
use Rattle.sync_element.specs.Whole.{element_state}
use Rattle.sync_element.proofs.Answering.{mode_until}
use Rattle.sync_element.proofs.element.Element.mode.Goals as goal

pub returns : goal.returns
unfolding StandsFor
returns c = record {
  mode =
      rw (← c.self.view_is, c.mode_of.ensures, c.forced.ensures.value, c.manual.ensures.value)
      (mode_until (element_state c.self.inside) c.self.invariant);
}
