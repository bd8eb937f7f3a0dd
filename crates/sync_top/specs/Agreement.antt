-- What a done `agree` says of every run of the plan that was read.
use Rattle.std.specs.Prelude.{◌≡◌, ◌≤◌, ℕ, Option, Some, Ok}
use Rattle.sync_edge.specs.Contents.{Contents}
use Rattle.sync_topo.specs.Topology.{Topology}
use Rattle.reach_rules.specs.Agreement.{IsAgreedBound, ComesToRest}
use Rattle.reach_rules.specs.Failing.{IsFailureBound, is_planned, RestsSoon}
use Rattle.sync_top.specs.declared.form.PlanForm.TheVariants.{Agree}
use Rattle.sync_top.specs.Form.{Form, PlanName, on_plan}
use Rattle.sync_top.specs.Reading.{plan_in}

-- a plan has an agreed bound, and its network comes to rest by it; and it has a bound after failures, which is no greater, and by
-- which it rests where out of a settled millisecond it only loses parts and no source changes its level
pub record Rests (plan : Topology) : Type 0 where
  pub bound : ℕ
  pub agreed : IsAgreedBound plan bound
  pub comes : ComesToRest plan bound
  pub failures : ℕ
  pub failed : IsFailureBound (is_planned plan) plan failures
  pub sooner : failures ≤ bound
  pub soon : RestsSoon plan failures

-- where the words ask whether a plan agrees, a plan was read, and it comes to rest by its bounds
abbrev pub IsComingToRest : Option Form → Contents → Type 0
IsComingToRest form files = (plan_name : PlanName) → form ≡ Some (on_plan Agree plan_name)
    → (plan : Topology) × (plan_in plan_name files ≡ Ok plan) × Rests plan
