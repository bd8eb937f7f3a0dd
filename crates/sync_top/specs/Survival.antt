-- What a done `protect` says of every run of the plan that was written.
use Rattle.std.specs.Prelude.{◌≡◌, ℕ, List, Option, Some, Ok}
use Rattle.std.specs.Io.KnownBytes.{Appends}
use Rattle.sync_edge.specs.Contents.{Contents}
use Rattle.sync_topo.specs.Topology.{Topology}
use Rattle.plan_file.specs.IsPlanText.{IsPlanText}
use Rattle.reach_rules.specs.Agreement.{IsAgreedBound}
use Rattle.reach_rules.specs.Failing.{IsFailureBound, is_planned, SurvivesEachSoon}
use Rattle.reach_rules.specs.Survival.{Survives}
use Rattle.sync_top.specs.declared.form.PlanForm.TheVariants.{Protect}
use Rattle.sync_top.specs.Form.{Form, PlanName, on_plan}
use Rattle.sync_top.specs.Reading.{plan_in}

-- a text is that of a plan of which this holds
abbrev pub IsTextOf : (Topology → Type 0) → List ℕ → Type 0
IsTextOf P text = (plan : Topology) × IsPlanText plan text × P plan

-- where the words ask for priorities by which no failure cuts anybody off, a plan was read, and what was written behind what
-- stood there before is the text of a plan of which this holds
abbrev pub Protects : (Topology → Type 0) → Option Form → Option (List ℕ) → Option (List ℕ) → Contents → Type 0
Protects P form before now files = (plan_name : PlanName) → form ≡ Some (on_plan Protect plan_name)
    → (plan : Topology) × (plan_in plan_name files ≡ Ok plan) × ((text : List ℕ) × Appends before now text × IsTextOf P text)

-- a plan has an agreed bound, and by it survives each of its failures; and it has a bound after failures, by which it survives each
-- out of a settled network, where its parts only go down
pub record IsSurvivor (plan : Topology) : Type 0 where
  pub bound : ℕ
  pub agreed : IsAgreedBound plan bound
  pub survives : Survives plan bound
  pub failures : ℕ
  pub failed : IsFailureBound (is_planned plan) plan failures
  pub soon : SurvivesEachSoon plan failures
