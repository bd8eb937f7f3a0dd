use Rattle.sync_element.specs.StandsFor.{StandsFor}
use Rattle.sync_element.specs.Whole.{element_state}
use Rattle.sync_element.proofs.Answering.{state_until}
use Rattle.sync_element.proofs.element.Element.state.Goals as goal

pub returns : goal.returns
unfolding StandsFor
returns c = record {
  state =
      rw (← c.self.view_is, c.state_of.ensures)
      (state_until (element_state c.self.inside) c.self.invariant);
}
