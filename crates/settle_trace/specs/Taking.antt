-- What elements take, each by itself, as a list by the number of the element.
use Rattle.std.specs.Prelude.{◌≡◌, ◌<◌, ℕ, List, Option, length, slice_get, slice_index_or, option_and_then}
use Rattle.sync_ql.specs.Moment.{Moment, selection_at}
use Rattle.sync_ql.specs.Told.{moments_until}
use Rattle.sync_element.specs.ElementState.{ElementState, IsInTime}
use Rattle.sync_element.specs.StandsFor as Element
use Rattle.sync_topo.specs.declared.input.InputId.{InputId}
use Rattle.sync_topo.specs.Topology.{Topology}
use Rattle.sync_topo.specs.Lines.{inputs_of}
use Rattle.closed_walks.specs.Taking.{taken_in_list, AreTaken}
use Rattle.sync_net.specs.NetState.{NetState}

-- an element of the plan takes this, up to but not at its due time, if nothing is told
pub record IsTaking (plan : Topology) (e : ℕ) (element : ElementState) (taken : Option InputId) : Type 0 where
  pub is : (past : List Moment) (n : ℕ) → Element.StandsFor element past → IsInTime element n →
      taken ≡ option_and_then (slice_get (inputs_of plan e)) (selection_at element.settings (moments_until element.settings n past))

-- each element of the network takes what stands at its place
pub record AreTaking (net : NetState) (taken : List (Option InputId)) : Type 0 where
  pub own : AreTaken net.plan taken
  pub each : (e : ℕ) (element : ElementState) → e < length net.plan.elements →
      IsTaking net.plan e (slice_index_or net.elements e element) (taken_in_list taken e)
