-- Beside specs/Lines.antt, under no public clause: lines and inputs: each link is two lines, one for each direction,
-- and an element takes its timing from nominated lines and sources.
use Rattle.std.specs.Prelude.{◌≡◌, ℕ}
use Rattle.sync_topo.specs.declared.input.LineId.{LineId}
use Rattle.sync_topo.specs.Topology.{Topology}
use Rattle.sync_topo.specs.Lines.{sender_of, IsNominated}

-- the line is nominated, and the element sends over it
pub record IsLineOut (plan : Topology) (element : ℕ) (line : LineId) : Type 0 where
  pub nominated : IsNominated plan line.0
  pub sent : sender_of plan line.0 ≡ element
