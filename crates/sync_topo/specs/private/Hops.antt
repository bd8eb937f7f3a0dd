-- Beside specs/Hops.antt, under no public clause: hops from line to line, ranks that rise over them, and cycles.
use Rattle.std.specs.Prelude.{ℕ, List}
use Rattle.sync_topo.specs.Topology.{Topology}
use Rattle.sync_topo.specs.Ranks.{Walks}
use Rattle.sync_topo.specs.Hops.{hops}

abbrev pub IsWalk : Topology → List ℕ → Type 0
IsWalk plan lines = Walks (hops plan) lines
