-- Which inputs an element takes its timing from.
use Rattle.std.specs.Prelude.{◌≡◌, ℕ, IsTrue}
use Rattle.sync_topo.specs.declared.input.InputId.{InputId}
use Rattle.sync_topo.specs.Topology.{Topology}
use Rattle.sync_topo.specs.Lines.{IsInput, is_nominated_input, element_of}

-- a nominated input of the plan, and of this element
pub record IsInputOf (plan : Topology) (element : ℕ) (input : InputId) : Type 0 where
  pub has : IsInput plan input
  pub nominated : IsTrue (is_nominated_input plan input)
  pub of_element : element_of plan input ≡ element
