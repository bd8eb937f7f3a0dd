use Rattle.reach_rules.proofs.SurvivalLaws.{served-timed, auto-without, idle-from-bound, survives-one, survives-each, survives-with}
use Rattle.reach_rules.proofs.surviving.survival_law.Goals as goal

pub returns-clause-timed : goal.returns-clause-timed
returns-clause-timed c plan failure events worst out last element well of_failure better = served-timed plan failure events worst well of_failure better out last element

pub returns-clause-auto : goal.returns-clause-auto
returns-clause-auto c = auto-without

pub returns-clause-idle : goal.returns-clause-idle
returns-clause-idle c = idle-from-bound

pub returns-clause-one : goal.returns-clause-one
returns-clause-one c = survives-one

pub returns-clause-survives : goal.returns-clause-survives
returns-clause-survives c = survives-each

pub returns-clause-survives_with : goal.returns-clause-survives_with
returns-clause-survives_with c = survives-with
