-- What a text has to do with the network whose element it is of, where a file holds just what that network brings to the
-- element.
use Rattle.std.specs.Prelude.{◌≡◌, ◌≤◌, ℕ, suc, List, ◌++◌, codes, Ok}
use Rattle.std.specs.List.{concat}
use Rattle.std.specs.Fmt.{decimal}
use Rattle.sync_topo.specs.declared.event.Event.{Event}
use Rattle.sync_topo.specs.Topology.{Topology}
use Rattle.node_file.specs.declared.row.NodeRow.{NodeRow}
use Rattle.node_file.specs.NodeFile.{rows_of}
use Rattle.node_rules.specs.FromNetwork.{IsNodeFile, IsReplayed}
use Rattle.node_rules.specs.SentFrames.{network_rows}
use Rattle.node_replay.specs.declared.replayed.Replayed.{Replayed}
use Rattle.node_replay.specs.declared.replayed.NodeEnd.{NodeEnd}
use Rattle.node_replay.specs.declared.replayed.NodeEnd.TheVariants.{Until, Stopped}

-- the rows of the frames that the element sends in its network, up to where a text ends
abbrev pub network_text : Topology → List Event → ℕ → ℕ → NodeEnd → List ℕ
network_text plan events element until Until = concat (network_rows plan events element (suc until))
network_text plan events element until (Stopped last) =
    concat (network_rows plan events element (suc last)) ++ codes "stopped," ++ decimal last ++ codes "\n"

-- up to the end the element does over the rows what it does in the network, and the text is of the frames that it sends there
pub record IsOfNetwork (plan : Topology) (events : List Event) (element until : ℕ) (rows : List NodeRow) (replayed : Replayed) : Type 0 where
  pub does : (t : ℕ) → t ≤ until → IsReplayed plan events element rows t
  pub sends : replayed.text ≡ network_text plan events element until replayed.end

-- so it is, whatever the events, where the rows of the bytes are just what the network brings to the element
abbrev pub IsNetworkText : Topology → ℕ → List ℕ → ℕ → Replayed → Type 0
IsNetworkText plan element bytes until replayed = (events : List Event) (rows : List NodeRow) → rows_of plan element bytes ≡ Ok rows
    → IsNodeFile plan events element until rows → IsOfNetwork plan events element until rows replayed
