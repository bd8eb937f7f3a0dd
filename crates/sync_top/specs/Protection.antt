-- What a done `protected` says of every run of the plan that was read.
use Rattle.std.specs.Prelude.{◌≡◌, ℕ, List, Option, Some, Ok}
use Rattle.sync_edge.specs.Contents.{Contents}
use Rattle.sync_topo.specs.Topology.{Topology}
use Rattle.sync_topo.specs.Sizes.{size_of}
use Rattle.reach_rules.specs.declared.group.Group.{Group}
use Rattle.group_file.specs.GroupText.{groups_of}
use Rattle.reach_rules.specs.Agreement.{IsAgreedBound}
use Rattle.reach_rules.specs.Failing.{IsFailureBound, is_planned, SurvivesSoonWith}
use Rattle.reach_rules.specs.Protection.{HoldsOut, HoldsOutWith}
use Rattle.reach_rules.specs.Survival.{SurvivesWith}
use Rattle.sync_top.specs.declared.form.FileForm.TheVariants.{Groups}
use Rattle.sync_top.specs.declared.form.PlanForm.TheVariants.{Protected}
use Rattle.sync_top.specs.Form.{Form, PlanName, on_plan, on_file}
use Rattle.sync_top.specs.Reading.{file, plan_in}

-- a plan holds out with groups; where it has an agreed bound, it survives each failure and each group by it, and where it has a
-- bound after failures, by that one out of a settled network, where their parts only go down
pub record Withstands (plan : Topology) (groups : List Group) : Type 0 where
  pub holds : HoldsOutWith plan groups
  pub survives : (bound : ℕ) → IsAgreedBound plan bound → SurvivesWith plan bound groups
  pub soon : (bound : ℕ) → IsFailureBound (is_planned plan) plan bound → SurvivesSoonWith plan bound groups

-- where the words ask whether a plan is protected, a plan was read, and it holds out; and with groups, these were read too, and it
-- withstands them
pub record IsHoldingOut (form : Option Form) (files : Contents) : Type 0 where
  pub alone : (plan_name : PlanName) → form ≡ Some (on_plan Protected plan_name)
      → (plan : Topology) × (plan_in plan_name files ≡ Ok plan) × HoldsOut plan
  pub grouped : (plan_name : PlanName) (groups_name : List ℕ) → form ≡ Some (on_file Groups plan_name groups_name)
      → (plan : Topology) × (plan_in plan_name files ≡ Ok plan)
      × ((bytes : List ℕ) × (file (size_of plan) groups_name files ≡ Ok bytes)
      × ((groups : List Group) × (groups_of plan bytes ≡ Ok groups) × Withstands plan groups))
