use Rattle.std.proofs.Common.{◌≡◌, ◌≤◌}
use Rattle.reach_rules.specs.Failing.{is_planned, count_below}
use Rattle.cycle_plan.proofs.failures.planned_levels.Given as goal

abbrev pub invariant-loop-place : goal.invariant-loop-place
invariant-loop-place l = (l.count ≡ count_below (is_planned l.plan) l.place) × (l.count ≤ l.place)
