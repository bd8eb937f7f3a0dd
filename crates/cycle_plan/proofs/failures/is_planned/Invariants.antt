use Rattle.std.proofs.Common.{◌≡◌, ◌<◌, ℕ, false}
use Rattle.cycle_plan.specs.private.Latest.{has_level}
use Rattle.cycle_plan.proofs.failures.is_planned.Given as goal

abbrev pub invariant-loop-source : goal.invariant-loop-source
invariant-loop-source l = (other : ℕ) → other < l.source → has_level l.plan l.place other ≡ false
