-- What the rows of `chains` say of every run of the plan that was read.
use Rattle.std.specs.Prelude.{◌≡◌, List, Option, Some, Ok}
use Rattle.sync_edge.specs.Contents.{Contents}
use Rattle.sync_topo.specs.Topology.{Topology}
use Rattle.reach_rules.specs.declared.chain.Chain.{Chain}
use Rattle.reach_rules.specs.Chains.{AreRows, AreBounds}
use Rattle.sync_top.specs.declared.form.PlanForm.TheVariants.{Chains}
use Rattle.sync_top.specs.Form.{Form, PlanName, on_plan}
use Rattle.sync_top.specs.Reading.{plan_in}

-- where the words ask for chains, a plan was read; it has one list of rows, those that are written, and whatever happens,
-- in every millisecond, each trace that ends at a source or an own clock is within its element's row
abbrev pub IsBoundedByChains : Option Form → Contents → Type 0
IsBoundedByChains form files = (plan_name : PlanName) → form ≡ Some (on_plan Chains plan_name)
    → (plan : Topology) × (plan_in plan_name files ≡ Ok plan)
    × ((rows : List Chain) × AreRows plan rows × AreBounds plan rows)
