-- What each element takes, as a list by the number of the element.
use Rattle.std.specs.Prelude.{◌≡◌, ℕ, List, length, slice_index_or, Option, None, IfSome}
use Rattle.sync_topo.specs.declared.input.InputId.{InputId}
use Rattle.sync_topo.specs.Topology.{Topology}
use Rattle.net_rules.specs.Inputs.{IsInputOf}
use Rattle.net_rules.specs.Walks.{Taken}

abbrev pub taken_in_list : List (Option InputId) → Taken
taken_in_list inputs element = slice_index_or inputs element None

-- there is one for each element of the plan, and each is a nominated input of its own
pub record AreTaken (plan : Topology) (inputs : List (Option InputId)) : Type 0 where
  pub count : length inputs ≡ length plan.elements
  pub own : (element : ℕ) → IfSome (taken_in_list inputs element) (IsInputOf plan element)
