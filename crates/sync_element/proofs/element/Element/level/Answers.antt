use Rattle.sync_element.specs.StandsFor.{StandsFor}
use Rattle.sync_element.specs.Whole.{element_state}
use Rattle.sync_element.proofs.Answering.{level_option, level_until}
use Rattle.sync_element.proofs.element.Element.level.Goals as goal

pub returns-clause-level : goal.returns-clause-level
unfolding StandsFor
returns-clause-level c =
    let level = rw c.inputs.ensures at c.level_of.ensures in
    rw (← c.self.view_is, level)
    (level_until (element_state c.self.inside) c.self.invariant)

pub returns-clause-option : goal.returns-clause-option
returns-clause-option c =
    let level = rw c.inputs.ensures at c.level_of.ensures in
    rw (← c.self.view_is, level)
    (level_option (element_state c.self.inside) c.self.invariant)
