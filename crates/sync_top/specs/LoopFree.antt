-- What accepted ranks say of the plan that was read, or of the ladder.
use Rattle.std.specs.Prelude.{◌≡◌, ℕ, List, Option, Some, Ok}
use Rattle.sync_edge.specs.Contents.{Contents}
use Rattle.sync_topo.specs.Topology.{Topology}
use Rattle.net_rules.specs.Safety.{IsLoopFree}
use Rattle.plan_gen.specs.Ladder.{ladder}
use Rattle.sync_top.specs.declared.form.FileForm.TheVariants.{Ranks}
use Rattle.sync_top.specs.declared.form.RanksForm.TheVariants.{Check}
use Rattle.sync_top.specs.declared.form.LadderForm.TheVariants.{Trial}
use Rattle.sync_top.specs.Form.{Form, PlanName, on_file, on_ladder}
use Rattle.sync_top.specs.Reading.{plan_in}

-- where the words ask to check a plan, one is read, and no timing loop can form in it, but two elements
-- that face each other on one link or bundle; where they ask for a trial, none can form in the ladder,
-- which is a fact of every ladder
pub record IsCheckedLoopFree (form : Option Form) (files : Contents) : Type 0 where
  pub checked : (plan_name : PlanName) (certificate_name : List ℕ) → form ≡ Some (on_file (Ranks Check) plan_name certificate_name)
      → (plan : Topology) × (plan_in plan_name files ≡ Ok plan) × IsLoopFree plan
  pub tried : (n : ℕ) → form ≡ Some (on_ladder Trial n) → IsLoopFree (ladder n)
