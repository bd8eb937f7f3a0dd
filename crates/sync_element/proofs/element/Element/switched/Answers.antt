use Rattle.sync_element.specs.StandsFor.{StandsFor}
use Rattle.sync_element.specs.Whole.{element_state}
use Rattle.sync_element.proofs.Answering.{switched_until}
use Rattle.sync_element.proofs.element.Element.switched.Goals as goal

pub returns-clause-switched : goal.returns-clause-switched
unfolding StandsFor
returns-clause-switched c =
    rw (← c.self.view_is, c.or.ensures, c.forced.ensures.value, c.manual.ensures.value)
    (switched_until (element_state c.self.inside) c.self.invariant)
