use Rattle.sync_topo.proofs.SizedPlans.{sized-limit, sized-accepted, sized-again}
use Rattle.sync_topo.proofs.plan.Plan.sized.Goals as goal

pub returns-clause-limit : goal.returns-clause-limit
returns-clause-limit c = sized-limit c.args.size c.args.rows

pub returns-clause-accepted : goal.returns-clause-accepted
returns-clause-accepted c = sized-accepted c.args.size

pub returns-clause-again : goal.returns-clause-again
returns-clause-again c = sized-again c.args.size
