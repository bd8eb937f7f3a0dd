use Rattle.sync_net.specs.private.Beginning.{IsNewPlace}
use Rattle.net_words.proofs.NewElements.{each-more}
use Rattle.sync_net.proofs.starting.new_lines.Goals as goal

pub loop-number-preserved : goal.loop-number-preserved
loop-number-preserved c =
    each-more (IsNewPlace c.args.plan.now) c.loop-number.number c.loop-number.lines c.push.new.self c.in_ok-new_line.field-0
    c.loop-number.invariant c.in_ok-push.ensures.ok c.in_ok-new_line.ensures
