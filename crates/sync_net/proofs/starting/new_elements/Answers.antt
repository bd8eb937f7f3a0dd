use Rattle.net_rules.specs.History.{by_levels}
use Rattle.net_words.specs.NewElements.{IsNewElement}
use Rattle.net_words.proofs.NewElements.{each-more}
use Rattle.sync_net.proofs.starting.new_elements.Goals as goal

pub loop-element-preserved : goal.loop-element-preserved
loop-element-preserved c =
    each-more (IsNewElement (by_levels c.args.plan.now) c.args.plan.now) c.loop-element.element c.loop-element.elements c.push.new.self c.in_ok-own_element.field-0
    c.loop-element.invariant c.in_ok-push.ensures.ok c.in_ok-own_element.ensures
