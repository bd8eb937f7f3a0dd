-- The frames that an element sends, as text. The frames are after G.8264; the source address and the rows are this
-- project's own.
use Rattle.std.specs.Prelude.{◌≡◌, ℕ, zero, suc, ◌+◌, ◌*◌, ◌/◌, ◌%◌, ◌^◌, ◌≤◌, ◌<◌, ◌≢◌, Bool, ◌==◌, if◌then◌else◌, List, [], ◌∷◌, ◌++◌, length, map, filter, replicate, codes, Option, None, Some}
use Rattle.std.specs.List.{concat, range_with_len}
use Rattle.std.specs.Fmt.{decimal}
use Rattle.hex.specs.Hex.{encode_lower}
use Rattle.sync_ql.specs.declared.levels.Level.{Level}
use Rattle.sync_topo.specs.Sizes.{most_rows}
use Rattle.sync_ql.specs.Table.{not_enhanced}
use Rattle.sync_ql.specs.Level.{code_of, enhanced_of}
use Rattle.sync_topo.specs.Topology.{Topology}
use Rattle.sync_topo.specs.Lines.{line_count, line_name, sender_of}
use Rattle.esmc_frame.specs.declared.frame.Pdu.{Pdu}
use Rattle.esmc_frame.specs.declared.frame.Extended.{Extended}
use Rattle.esmc_frame.specs.Frame.{written_frame}
use Rattle.node_file.specs.declared.row.NodeRow.{NodeRow}
use Rattle.node_rules.specs.Replay.{node_out, out_past, sends_frame, is_event}

-- the octets of a number below 2 ^ 32, the highest first
abbrev pub four_octets : ℕ → List ℕ
four_octets n = n / 2 ^ 24 % 256 ∷ n / 2 ^ 16 % 256 ∷ n / 2 ^ 8 % 256 ∷ n % 256 ∷ []

-- the source address of an element's frames
abbrev pub address_of : ℕ → List ℕ
address_of element = 2 ∷ 0 ∷ four_octets element

-- an extended QL TLV for a level with an enhanced code of its own; clock, flags and counts are zero
abbrev pub extended_for : Level → Option Extended
extended_for level =
    if enhanced_of level == not_enhanced then None
    else Some (record { code = enhanced_of level; clock = replicate 8 0; flags = 0; eeecs = 0; eecs = 0 })

-- what a frame of an element carries
abbrev pub carried : ℕ → Level → Bool → Pdu
carried element level event = record { source = address_of element; event = event; code = code_of level; extended = extended_for level }

-- the row of the frame on a line in a millisecond
abbrev pub frame_row : Topology → List NodeRow → ℕ → ℕ → ℕ → List ℕ
frame_row plan rows element t line =
    decimal t ++ codes "," ++ line_name plan line ++ codes ","
    ++ encode_lower (written_frame (carried element (node_out plan rows element line t) (is_event (out_past plan rows element line (suc t)))))
    ++ codes "\n"

-- the lines out of the element on which a frame goes out in a millisecond, in order
abbrev pub lines_out : Topology → ℕ → List ℕ
lines_out plan element = filter (λ line. sender_of plan line == element) (range_with_len 0 (line_count plan))

abbrev pub sending_at : Topology → List NodeRow → ℕ → ℕ → List ℕ
sending_at plan rows element t = filter (λ line. sends_frame plan rows element line t) (lines_out plan element)

-- all rows of the first n milliseconds, and how many they are
abbrev pub rows_before : Topology → List NodeRow → ℕ → ℕ → List (List ℕ)
rows_before plan rows element zero = []
rows_before plan rows element (suc n) = rows_before plan rows element n ++ map (frame_row plan rows element n) (sending_at plan rows element n)

-- all rows up to a millisecond fit
abbrev pub AllFit : Topology → List NodeRow → ℕ → ℕ → Type 0
AllFit plan rows element until = length (rows_before plan rows element (suc until)) ≤ most_rows plan

-- a millisecond is the last one up to which all fit, and those up to a later one don't
pub record IsLastFit (plan : Topology) (rows : List NodeRow) (element last until : ℕ) : Type 0 where
  pub before : last < until
  pub fit : AllFit plan rows element last
  pub full : most_rows plan < length (rows_before plan rows element (suc (suc last)))

abbrev pub whole_text : Topology → List NodeRow → ℕ → ℕ → List ℕ
whole_text plan rows element until = concat (rows_before plan rows element (suc until))

abbrev pub stopped_text : Topology → List NodeRow → ℕ → ℕ → List ℕ
stopped_text plan rows element last = whole_text plan rows element last ++ codes "stopped," ++ decimal last ++ codes "\n"
