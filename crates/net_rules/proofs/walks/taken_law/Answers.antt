use Rattle.net_rules.proofs.FinalLaws.{taken-own, walk-here, traced-here}
use Rattle.net_rules.proofs.walks.taken_law.Goals as goal

pub returns-clause-own : goal.returns-clause-own
returns-clause-own c = taken-own

pub returns-clause-walk : goal.returns-clause-walk
returns-clause-walk c = walk-here

pub returns-clause-traced : goal.returns-clause-traced
returns-clause-traced c = traced-here
