-- The frames that an element sends in its network, as text: what a file of them holds.
use Rattle.std.specs.Prelude.{ℕ, zero, suc, List, [], ◌++◌, map, filter, codes}
use Rattle.std.specs.Fmt.{decimal}
use Rattle.hex.specs.Hex.{encode_lower}
use Rattle.sync_ql.specs.Messages.{is_sent}
use Rattle.sync_topo.specs.declared.event.Event.{Event}
use Rattle.sync_topo.specs.Topology.{Topology}
use Rattle.sync_topo.specs.Lines.{line_name}
use Rattle.esmc_frame.specs.Frame.{written_frame}
use Rattle.node_rules.specs.Replay.{is_event}
use Rattle.node_rules.specs.NodeText.{carried, lines_out}
use Rattle.node_rules.specs.FromNetwork.{network_out, network_past}

-- the row of the frame that an element sends on a line in a millisecond: it carries the level that the line is given, and
-- is an event message where it brings news
abbrev pub network_row : Topology → List Event → ℕ → ℕ → ℕ → List ℕ
network_row plan events element t line =
    decimal t ++ codes "," ++ line_name plan line ++ codes ","
    ++ encode_lower (written_frame (carried element (network_out plan events line t) (is_event (network_past plan events line (suc t)))))
    ++ codes "\n"

-- the lines out of an element on which a message goes out in a millisecond, in order
abbrev pub network_sending : Topology → List Event → ℕ → ℕ → List ℕ
network_sending plan events element t = filter (λ line. is_sent (network_past plan events line (suc t))) (lines_out plan element)

-- the rows of the frames that an element sends in its first n milliseconds
abbrev pub network_rows : Topology → List Event → ℕ → ℕ → List (List ℕ)
network_rows plan events element zero = []
network_rows plan events element (suc n) =
    network_rows plan events element n ++ map (network_row plan events element n) (network_sending plan events element n)
