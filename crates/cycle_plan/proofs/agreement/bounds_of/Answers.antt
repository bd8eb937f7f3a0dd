use Rattle.sync_topo.specs.Lines.{is_nominated}
use Rattle.sync_topo.specs.Hops.{bears_on}
use Rattle.rank_cert.specs.Ranks.{rank_at}
use Rattle.cycle_plan.proofs.Walks.{least_ranks}
use Rattle.cycle_plan.proofs.agreement.bounds_of.Goals as goal

pub agreed_bound-bound-requires-clause-least : goal.agreed_bound-bound-requires-clause-least
agreed_bound-bound-requires-clause-least c =
    least_ranks (bears_on c.args.plan.now) (is_nominated c.args.plan.now) (rank_at c.args.ranking.now.ranks) c.requires.done.peeled c.requires.ranked
