use Rattle.sync_element.specs.StandsFor.{StandsFor}
use Rattle.sync_element.specs.Whole.{element_state}
use Rattle.sync_element.proofs.Answering.{selected_until}
use Rattle.sync_element.proofs.element.Element.selected.Goals as goal

pub returns-clause-selected : goal.returns-clause-selected
unfolding StandsFor
returns-clause-selected c =
    rw (← c.self.view_is)
    (selected_until (element_state c.self.inside) c.self.invariant)
