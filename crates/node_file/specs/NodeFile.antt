-- The rows that a file gives over a plan and one of its elements, or the first rule that it breaks. This project's own.
use Rattle.std.specs.Prelude.{ℕ, zero, suc, ◌+◌, Bool, nat_lt, ◌==◌, List, length, Option, None, Some, option_map, option_and_then, slice_get, unwrap_or, Result, Ok, Err, if◌then◌else◌}
use Rattle.std.specs.List.{slice_split, filter_map}
use Rattle.std.specs.Str.Lines.{strip_carriage_return}
use Rattle.hex.specs.Hex.{decode_of}
use Rattle.hex.specs.declared.error.FromHexError.{FromHexError}
use Rattle.csv_records.specs.Fields.{four_of}
use Rattle.csv_records.specs.FirstRefusal.{first_refusal}
use Rattle.sync_text.specs.Number.{number_of}
use Rattle.sync_ql.specs.declared.levels.NetOption.{NetOption}
use Rattle.sync_ql.specs.declared.levels.Level.{Level}
use Rattle.sync_ql.specs.Level.{level_of_codes}
use Rattle.sync_topo.specs.declared.input.LineId.{LineId}
use Rattle.sync_topo.specs.declared.event.What.{What}
use Rattle.sync_topo.specs.Topology.{Topology}
use Rattle.esmc_frame.specs.declared.frame.Pdu.{Pdu}
use Rattle.esmc_frame.specs.declared.frame.Extended.{Extended}
use Rattle.esmc_frame.specs.declared.error.FrameErr.{FrameErr}
use Rattle.esmc_frame.specs.Reading.{reading_of}
use Rattle.event_file.specs.Rows.{in_time}
use Rattle.event_file.specs.Words.{what_of}
use Rattle.node_file.specs.declared.error.NodeErr.{NodeErr}
use Rattle.node_file.specs.declared.error.NodeErr.TheVariants as refusal
use Rattle.node_file.specs.declared.row.NodeWord.{NodeWord}
use Rattle.node_file.specs.declared.row.NodeWord.TheVariants.{Frame, Happens}
use Rattle.node_file.specs.declared.row.NodeRow.{NodeRow}
use Rattle.node_file.specs.declared.topic.Topic.{Topic}
use Rattle.node_file.specs.declared.topic.Topic.TheVariants.{Comes, Says}
use Rattle.node_file.specs.Topic.{is_word, topic_of}

-- how many bytes a line may have before its line feed, a carriage return among them
abbrev pub line_limit : ℕ
line_limit = 4096

-- a line that says nothing: it is empty, but for a carriage return at its end
abbrev pub is_blank : List ℕ → Bool
is_blank line = length (strip_carriage_return line) == 0

-- the four fields of some bytes, and of a line
abbrev pub fields_of : List ℕ → Option (List ℕ × List ℕ × List ℕ × List ℕ)
fields_of bytes = four_of (slice_split (λ byte. byte == 44) bytes)

abbrev pub fields_in : List ℕ → Option (List ℕ × List ℕ × List ℕ × List ℕ)
fields_in line = fields_of (strip_carriage_return line)

-- its time: the first field
abbrev pub time_in : List ℕ → Option ℕ
time_in line = option_and_then (λ fields. option_and_then in_time (number_of fields.0)) (fields_in line)

-- the level that the codes of a frame name
abbrev pub level_carried : NetOption → Pdu → Option Level
level_carried option pdu = level_of_codes option pdu.code (option_map (λ (e : Extended). e.code) pdu.extended)

-- what a frame says, by what its octets are read as
abbrev pub frame_said : ℕ → NetOption → LineId → Result Pdu FrameErr → Result NodeWord NodeErr
frame_said n option line (Ok pdu) = Ok (Frame line (level_carried option pdu))
frame_said n option line (Err error) = Err (refusal.Frame n error)

-- the octets of a frame are hexadecimal digits, of either case
abbrev pub octets_said : ℕ → NetOption → LineId → Result (List ℕ) FromHexError → Result NodeWord NodeErr
octets_said n option line (Ok octets) = frame_said n option line (reading_of octets)
octets_said n option line (Err error) = Err (refusal.Value n)

abbrev pub event_said : ℕ → Option What → Result NodeWord NodeErr
event_said n None = Err (refusal.Value n)
event_said n (Some what) = Ok (Happens what)

-- what a value says of it
abbrev pub word_said : ℕ → NetOption → Topic → List ℕ → Result NodeWord NodeErr
word_said n option (Comes line) value = octets_said n option line (decode_of value)
word_said n option (Says told) value = event_said n (what_of option told value)

-- what a line of four fields says
abbrev pub word_in : Topology → ℕ → ℕ → List ℕ × List ℕ × List ℕ × List ℕ → Result NodeWord NodeErr
word_in plan element n fields = by (topic_of plan element fields.1 fields.2)
  where
    by : Option Topic → Result NodeWord NodeErr
    by None = Err (refusal.Target n)
    by (Some topic) = word_said n plan.option topic fields.3

abbrev pub refused_in : {A : Type 0} → Result A NodeErr → Option NodeErr
refused_in (Ok value) = None
refused_in (Err error) = Some error

-- the rule that four fields break, if they break one, where the last line that says something has this time
abbrev pub fields_refusal : Topology → ℕ → ℕ → ℕ → List ℕ × List ℕ × List ℕ × List ℕ → Option NodeErr
fields_refusal plan element n before fields = by (option_and_then in_time (number_of fields.0))
  where
    by : Option ℕ → Option NodeErr
    by None = Some (refusal.Time n)
    by (Some at) =
        if nat_lt at before then Some (refusal.Order n)
        else if is_word fields.1 then refused_in (word_in plan element n fields)
        else Some (refusal.What n)

-- the same of line n
unfoldable pub line_refusal : Topology → ℕ → ℕ → ℕ → List ℕ → Option NodeErr
line_refusal plan element n before line =
    if nat_lt line_limit (length line) then Some (refusal.Fields n)
    else if is_blank line then None
    else by (fields_in line)
  where
    by : Option (List ℕ × List ℕ × List ℕ × List ℕ) → Option NodeErr
    by None = Some (refusal.Fields n)
    by (Some fields) = fields_refusal plan element n before fields

-- the row of a line that says something (its number is of refusals alone)
unfoldable pub row_in : Topology → ℕ → List ℕ → Option NodeRow
row_in plan element line = if is_blank line then None else option_and_then by (fields_in line)
  where
    with_word : ℕ → Result NodeWord NodeErr → Option NodeRow
    with_word at (Ok word) = Some (record { at = at; word = word })
    with_word at (Err error) = None

    by : List ℕ × List ℕ × List ℕ × List ℕ → Option NodeRow
    by fields = option_and_then (λ at. with_word at (word_in plan element 0 fields)) (time_in line)

-- the time of the last line before a place that says something; 0 where none does
abbrev pub time_before : List (List ℕ) → ℕ → ℕ
time_before lines zero = 0
time_before lines (suc place) = by (time_before lines place) (slice_get lines place)
  where
    by : ℕ → Option (List ℕ) → ℕ
    by earlier None = earlier
    by earlier (Some line) = if is_blank line then earlier else unwrap_or (time_in line) 0

-- the rule that the line at a place breaks. Places count from 0, and the numbers of lines from 1
abbrev pub refusal_at : Topology → ℕ → List (List ℕ) → ℕ → Option NodeErr
refusal_at plan element lines place = option_and_then (line_refusal plan element (place + 1) (time_before lines place)) (slice_get lines place)

-- the rows of some lines, or the first refusal
abbrev pub rows_of_lines : Topology → ℕ → List (List ℕ) → Result (List NodeRow) NodeErr
rows_of_lines plan element lines = by (first_refusal (refusal_at plan element lines) (length lines))
  where
    by : Option NodeErr → Result (List NodeRow) NodeErr
    by None = Ok (filter_map (row_in plan element) lines)
    by (Some error) = Err error

-- the lines of a file: each ends at a line feed, which the last needs not
abbrev pub lines_of : List ℕ → List (List ℕ)
lines_of bytes = slice_split (λ byte. byte == 10) bytes

-- the rows of a file
abbrev pub rows_of : Topology → ℕ → List ℕ → Result (List NodeRow) NodeErr
rows_of plan element bytes = rows_of_lines plan element (lines_of bytes)
