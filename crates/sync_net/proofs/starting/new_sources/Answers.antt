use Rattle.sync_net.specs.private.Beginning.{IsNewSource}
use Rattle.net_words.proofs.NewElements.{each-more}
use Rattle.sync_net.proofs.starting.new_sources.Goals as goal

pub loop-number-preserved : goal.loop-number-preserved
loop-number-preserved c =
    each-more (IsNewSource c.args.plan.now) c.loop-number.number c.loop-number.sources c.push.new.self c.new_source.result
    c.loop-number.invariant c.in_ok-push.ensures.ok c.new_source.ensures
