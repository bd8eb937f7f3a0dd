use Rattle.cycle_plan.proofs.Walks.{one_least, lowest_rank}
use Rattle.cycle_plan.proofs.laws.least_rank_law.Goals as goal

pub returns-clause-one : goal.returns-clause-one
returns-clause-one c = one_least

pub returns-clause-lowest : goal.returns-clause-lowest
returns-clause-lowest c = lowest_rank
