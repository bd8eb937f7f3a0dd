use Rattle.sync_element.specs.StandsFor.{StandsFor}
use Rattle.sync_element.specs.Whole.{element_state}
use Rattle.sync_element.proofs.DueLemmas.{due_is_first_change, none_where_none_ends, some_where_one_ends, due_later, due_soon, due_in_range}
use Rattle.sync_element.proofs.element.Element.due.Goals as goal

pub returns-clause-later : goal.returns-clause-later
returns-clause-later c = rw (← c.self.view_is) (due_later (element_state c.self.inside) c.self.invariant)

pub returns-clause-soon : goal.returns-clause-soon
returns-clause-soon c = rw (← c.self.view_is) (due_soon (element_state c.self.inside) c.self.invariant)

pub returns-clause-in_range : goal.returns-clause-in_range
returns-clause-in_range c = due_in_range (element_state c.self.inside) c.self.invariant

pub returns-clause-none : goal.returns-clause-none
unfolding StandsFor
returns-clause-none c = rw (← c.self.view_is) (none_where_none_ends (element_state c.self.inside) c.self.invariant)

pub returns-clause-least : goal.returns-clause-least
unfolding StandsFor
returns-clause-least c = rw (← c.self.view_is) (some_where_one_ends (element_state c.self.inside) c.self.invariant)

pub returns-clause-changes : goal.returns-clause-changes
unfolding StandsFor
returns-clause-changes c =
    rw (← c.self.view_is)
    (λ past stands. due_is_first_change (element_state c.self.inside) past c.self.invariant stands c.self.inside.due c.self.invariant.first_due)
