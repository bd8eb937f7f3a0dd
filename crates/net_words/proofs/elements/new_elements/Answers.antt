use Rattle.net_words.specs.NewElements.{IsNewElement, setting_of}
use Rattle.net_words.proofs.NewElements.{each-more}
use Rattle.net_words.proofs.elements.new_elements.Goals as goal

pub loop-element-preserved : goal.loop-element-preserved
loop-element-preserved c =
    each-more (IsNewElement (setting_of c.args.chooses c.args.plan.now) c.args.plan.now) c.loop-element.element c.loop-element.elements c.push.new.self c.in_ok-new_element.field-0
    c.loop-element.invariant c.in_ok-push.ensures.ok c.in_ok-new_element.ensures
