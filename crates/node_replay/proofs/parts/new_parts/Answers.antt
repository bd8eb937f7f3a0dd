use Rattle.node_replay.proofs.TakenRows.{begun-after}
use Rattle.node_replay.proofs.parts.new_parts.Goals as goal

pub returns-clause-stands : goal.returns-clause-stands
returns-clause-stands c =
    begun-after c.args.plan.now c.args.element c.args.until c.in_ok-run.run' c.new.result c.new.ensures c.in_ok-run.ensures.next c.in_ok-run.ensures.going c.in_ok-run.ensures.stands
