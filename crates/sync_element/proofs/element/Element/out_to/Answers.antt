use Rattle.sync_element.specs.StandsFor.{StandsFor}
use Rattle.sync_element.specs.Whole.{element_state}
use Rattle.sync_element.proofs.Answering.{level_back_option, level_back_until}
use Rattle.sync_element.proofs.element.Element.out_to.Goals as goal

pub returns-clause-sent : goal.returns-clause-sent
unfolding StandsFor
returns-clause-sent c =
    let level = rw c.inputs.ensures at c.level_of-level.ensures in
    rw (← c.self.view_is, c.level_back.ensures, level)
    (level_back_until (element_state c.self.inside) c.self.invariant c.args.input)

pub returns-clause-option : goal.returns-clause-option
returns-clause-option c =
    let level = rw c.inputs.ensures at c.level_of-level.ensures in
    rw (← c.self.view_is, c.level_back.ensures, level)
    (level_back_option (element_state c.self.inside) c.self.invariant c.args.input)
