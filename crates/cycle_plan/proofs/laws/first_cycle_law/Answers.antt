use Rattle.cycle_plan.proofs.OneCycle.{one_cycle, cycle_lines}
use Rattle.cycle_plan.proofs.laws.first_cycle_law.Goals as goal

pub returns-clause-one : goal.returns-clause-one
returns-clause-one c = one_cycle

pub returns-clause-repeats : goal.returns-clause-repeats
returns-clause-repeats c = cycle_lines
