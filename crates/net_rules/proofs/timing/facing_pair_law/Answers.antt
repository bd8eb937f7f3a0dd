use Rattle.net_rules.proofs.PairLaws.{pair-short, pair-brief, pair-turned}
use Rattle.net_rules.proofs.timing.facing_pair_law.Goals as goal

pub returns-clause-speaking : goal.returns-clause-speaking
returns-clause-speaking c = pair-short

pub returns-clause-brief : goal.returns-clause-brief
returns-clause-brief c = pair-brief

pub returns-clause-turned : goal.returns-clause-turned
returns-clause-turned c = pair-turned
