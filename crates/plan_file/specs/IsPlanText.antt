-- The texts of a plan.
use Rattle.std.specs.Prelude.{◌≡◌, ℕ, IsTrue, List, Ok}
use Rattle.sync_topo.specs.declared.sizes.Size.TheVariants.{Standard, Large}
use Rattle.sync_topo.specs.Sizes.{is_standard}
use Rattle.sync_topo.specs.Topology.{Topology}
use Rattle.plan_file.specs.PlanText.{plan_of_size}

-- the plan of the text is this one, in each size that has room for it. A plan has many texts; `plan_text` (Spelling) is the one that is written
pub record IsPlanText (plan : Topology) (text : List ℕ) : Type 0 where
  pub large : plan_of_size Large text ≡ Ok plan
  pub standard : IsTrue (is_standard plan) → plan_of_size Standard text ≡ Ok plan
