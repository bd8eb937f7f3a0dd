use Rattle.std.proofs.Common.{◌≡◌, [], length, ap, ◌∙◌}
use Rattle.sync_ql.specs.Switches.{unswitched}
use Rattle.inspection.specs.private.Tables.{table_after}
use Rattle.net_words.proofs.NewElements.{each-more}
use Rattle.inspection.proofs.tables.new_tables.Goals as goal

pub loop-element-preserved : goal.loop-element-preserved
unfolding table_after
loop-element-preserved c =
    each-more (λ element s. s ≡ table_after c.args.plan.now [] element) c.loop-element.element c.loop-element.tables c.push.new.self c.new.result
    c.loop-element.invariant c.in_ok-push.ensures.ok (c.new.ensures.empty ∙ ap (λ inputs. unswitched (length inputs)) c.inputs.ensures.inputs)
