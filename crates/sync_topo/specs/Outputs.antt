-- The lines out of each element, nominated or not.
use Rattle.std.specs.Prelude.{◌≡◌, ℕ, ◌<◌, List, length, Vec}
use Rattle.std.specs.List.{All, AllPairs, Contains}
use Rattle.std.specs.declared.alloc.Global.{Global}
use Rattle.sync_topo.specs.declared.input.LineId.{LineId}
use Rattle.sync_topo.specs.Topology.{Topology}
use Rattle.sync_topo.specs.Lines.{line_count, sender_of}
use Rattle.sync_topo.specs.Held.{held}

-- the plan has the line, and it begins at the element
pub record IsOutput (plan : Topology) (element : ℕ) (line : LineId) : Type 0 where
  pub within : line.0 < line_count plan
  pub sent : sender_of plan line.0 ≡ element

-- the lines below n are kept, each once and for the element where it begins, in order of number
pub record AreOutputs (plan : Topology) (n : ℕ) (outputs : List (Vec LineId Global)) : Type 0 where
  pub counted : length outputs ≡ length plan.elements
  pub only : (element : ℕ) → All (IsOutput plan element) (held outputs element)
  pub each : (line : LineId) → line.0 < n → Contains (held outputs (sender_of plan line.0)) line
  pub below : (element : ℕ) → All (λ line. line.0 < n) (held outputs element)
  pub rising : (element : ℕ) → AllPairs (λ earlier later. earlier.0 < later.0) (held outputs element)
