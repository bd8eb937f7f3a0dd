-- What a plan is answered: another one that is protected, or whom failures cut off in the one that is found.
use Rattle.std.specs.Prelude.{◌≢◌, ⊤, List, [], Result, Ok, Err}
use Rattle.sync_text.specs.declared.errors.NoMemory.{NoMemory}
use Rattle.sync_topo.specs.Topology.{Topology}
use Rattle.reach_rules.specs.declared.failure.Failure.TheVariants as fails
use Rattle.reach_rules.specs.Protection.{IsProtectedFrom}
use Rattle.protection.specs.declared.gap.Gap.{Gap}
use Rattle.protection.specs.declared.guarding.Protected.{Protected}
use Rattle.protection.specs.declared.guarding.Protected.TheVariants as answer
use Rattle.protection.specs.Gaps.{AreGaps}
use Rattle.protection.specs.Orderly.{IsFound}

-- what holds of the plan, where there is one
abbrev pub IfPlan : Result Protected NoMemory → (Topology → Type 0) → Type 0
IfPlan (Ok (answer.Plan plan)) P = P plan
IfPlan (Ok (answer.Gaps gaps)) P = ⊤
IfPlan (Err error) P = ⊤

-- and of the gaps
abbrev pub IfGaps : Result Protected NoMemory → (List Gap → Type 0) → Type 0
IfGaps (Ok (answer.Plan plan)) P = ⊤
IfGaps (Ok (answer.Gaps gaps)) P = P gaps
IfGaps (Err error) P = ⊤

-- in the orderly plan that is found some failure cuts somebody off who needn't be, and these are the rows of such failures. With no
-- failure it cuts nobody off
pub record AreFoundGaps (plan : Topology) (gaps : List Gap) : Type 0 where
  pub found : Topology
  pub is : IsFound plan found
  pub served : IsProtectedFrom found fails.Nothing
  pub are : AreGaps found gaps
  pub some : gaps ≢ []
