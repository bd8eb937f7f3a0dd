use Rattle.net_words.specs.NewElements.{AreEach, IsNewElement, setting_of}
use Rattle.net_words.proofs.elements.new_elements.Given as goal

-- the elements so far
abbrev pub invariant-loop-element : goal.invariant-loop-element
invariant-loop-element l = AreEach (IsNewElement (setting_of l.chooses l.plan) l.plan) l.element l.elements
