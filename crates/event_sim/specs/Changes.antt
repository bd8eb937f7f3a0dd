-- What a change names is in the plan.
use Rattle.std.specs.Prelude.{◌<◌, length, IfSome}
use Rattle.sync_topo.specs.Topology.{Topology}
use Rattle.sync_topo.specs.Lines.{IsInput}
use Rattle.event_sim.specs.declared.change.Change.{Change}

-- a change is of an element of the plan, and of an input of the plan if it names one
pub record IsChangeOf (plan : Topology) (change : Change) : Type 0 where
  pub element : change.element < length plan.elements
  pub input : IfSome change.input (IsInput plan)
