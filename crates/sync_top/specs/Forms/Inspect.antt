-- The answer to `inspect`.
use Rattle.std.specs.Prelude.{ℕ, List}
use Rattle.sync_topo.specs.declared.event.Event.{Event}
use Rattle.sync_topo.specs.Topology.{Topology}
use Rattle.inspection.specs.Inspection.{inspection}
use Rattle.sync_top.specs.declared.status.Status.{Status}
use Rattle.sync_top.specs.Reading.{IsText}

-- what the network is at in a millisecond
abbrev pub IsInspected : Topology → List Event → ℕ → Status → List ℕ → Type 0
IsInspected plan events at status text = IsText (inspection plan events at) status text
