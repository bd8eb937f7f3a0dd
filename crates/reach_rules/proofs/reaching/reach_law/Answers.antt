use Rattle.reach_rules.proofs.ReachLaws.{reach-settled, reach-taken, reach-here, reach-best}
use Rattle.reach_rules.proofs.reaching.reach_law.Goals as goal

pub returns-clause-level : goal.returns-clause-level
returns-clause-level c = reach-settled

pub returns-clause-taken : goal.returns-clause-taken
returns-clause-taken c = reach-taken

pub returns-clause-here : goal.returns-clause-here
returns-clause-here c = reach-here

pub returns-clause-best : goal.returns-clause-best
returns-clause-best c = reach-best
