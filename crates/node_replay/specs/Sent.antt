-- What is sent for the bytes of a file.
use Rattle.std.specs.Prelude.{◌≡◌, ℕ, List, Ok}
use Rattle.sync_topo.specs.Topology.{Topology}
use Rattle.node_file.specs.declared.row.NodeRow.{NodeRow}
use Rattle.node_file.specs.NodeFile.{rows_of}
use Rattle.node_replay.specs.declared.replayed.Replayed.{Replayed}
use Rattle.node_replay.specs.Replayed.{IsReplayed}

-- the bytes are a file of the element, and that is what a replay of its rows gives
abbrev pub IsSentText : Topology → ℕ → List ℕ → ℕ → Replayed → Type 0
IsSentText plan element bytes until replayed =
    (rows : List NodeRow) × (rows_of plan element bytes ≡ Ok rows) × IsReplayed plan element until rows replayed
