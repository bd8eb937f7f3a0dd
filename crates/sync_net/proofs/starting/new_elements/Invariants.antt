use Rattle.net_rules.specs.History.{by_levels}
use Rattle.net_words.specs.NewElements.{AreEach, IsNewElement}
use Rattle.sync_net.proofs.starting.new_elements.Given as goal

-- the elements so far
abbrev pub invariant-loop-element : goal.invariant-loop-element
invariant-loop-element l = AreEach (IsNewElement (by_levels l.plan) l.plan) l.element l.elements
