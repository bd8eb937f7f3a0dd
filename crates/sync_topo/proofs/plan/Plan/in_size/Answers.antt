use Rattle.sync_topo.proofs.SizedPlans.{rows-within, within-gives}
use Rattle.sync_topo.proofs.plan.Plan.in_size.Goals as goal

pub returns-clause-within : goal.returns-clause-within
returns-clause-within c =
    within-gives c.args.size c.args.rows c.new.result c.new.ensures.plan
    (rows-within c.args.size c.args.rows c.in_ok-check_size.ensures.few_elements c.in_ok-check_size.ensures.few_links c.in_ok-check_size.ensures.few_sources)
