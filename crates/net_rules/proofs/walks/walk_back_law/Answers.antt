use Rattle.net_rules.proofs.BackWalk.{walk-back, back-walk, one-walk}
use Rattle.net_rules.proofs.walks.walk_back_law.Goals as goal

pub returns-clause-met : goal.returns-clause-met
returns-clause-met c = walk-back

pub returns-clause-walk : goal.returns-clause-walk
returns-clause-walk c = back-walk

pub returns-clause-one : goal.returns-clause-one
returns-clause-one c = one-walk
