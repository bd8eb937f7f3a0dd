use Rattle.net_rules.proofs.WalkLaws.{pair_or_cycle, pair_where_rising}
use Rattle.net_rules.proofs.walks.closed_walk_law.Goals as goal

pub returns-clause-either : goal.returns-clause-either
returns-clause-either c = pair_or_cycle

pub returns-clause-rising : goal.returns-clause-rising
returns-clause-rising c = pair_where_rising
