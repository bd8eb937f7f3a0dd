-- What a replay gives of its rows.
use Rattle.std.specs.Prelude.{◌≡◌, ℕ, List}
use Rattle.sync_topo.specs.Topology.{Topology}
use Rattle.node_file.specs.declared.row.NodeRow.{NodeRow}
use Rattle.node_replay.specs.declared.replayed.Replayed.{Replayed}
use Rattle.node_replay.specs.declared.replayed.NodeEnd.{NodeEnd}
use Rattle.node_replay.specs.declared.replayed.NodeEnd.TheVariants.{Until, Stopped}
use Rattle.node_rules.specs.NodeText.{AllFit, IsLastFit, whole_text, stopped_text}

-- the text of all frames, and where it ends
abbrev pub IsEnded : Topology → ℕ → ℕ → List NodeRow → List ℕ → NodeEnd → Type 0
IsEnded plan element until rows text Until = AllFit plan rows element until × (text ≡ whole_text plan rows element until)
IsEnded plan element until rows text (Stopped last) = IsLastFit plan rows element last until × (text ≡ stopped_text plan rows element last)

abbrev pub IsReplayed : Topology → ℕ → ℕ → List NodeRow → Replayed → Type 0
IsReplayed plan element until rows replayed = IsEnded plan element until rows replayed.text replayed.end
