use Rattle.net_words.proofs.NewElements.{each-more}
use Rattle.prio_mode.specs.private.Running.{IsNewSeen}
use Rattle.prio_mode.proofs.starting.all_seen.Goals as goal

pub loop-element-preserved : goal.loop-element-preserved
loop-element-preserved c =
    each-more (IsNewSeen c.args.plan.now) c.loop-element.element c.loop-element.seen c.push.new.self
    c.in_ok-new_seen.field-0 c.loop-element.invariant c.in_ok-push.ensures.ok c.in_ok-new_seen.ensures
