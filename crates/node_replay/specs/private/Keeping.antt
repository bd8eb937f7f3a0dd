-- Beside specs/Keeping.antt, under no public clause: what is kept of the element's inputs and of the lines out of it,
-- and what the rows of a millisecond make of it.
use Rattle.std.specs.Prelude.{ℕ, ◌-◌, ◌%◌, Bool, not, ◌&&◌, ◌||◌, nat_lt, nat_eq, if◌then◌else◌, List, ◌++◌, codes, Option, None, Some, unwrap_or}
use Rattle.std.specs.Fmt.{decimal}
use Rattle.hex.specs.Hex.{encode_lower}
use Rattle.sync_ql.specs.declared.levels.Level.{Level}
use Rattle.sync_ql.specs.Level.{do_not_use_of}
use Rattle.sync_ql.specs.Messages.{hearing_time, second, is_same_level}
use Rattle.sync_topo.specs.declared.input.LineId.{LineId}
use Rattle.sync_topo.specs.declared.input.InputId.{InputId}
use Rattle.sync_topo.specs.declared.input.InputId.TheVariants.{Line, Source}
use Rattle.sync_topo.specs.declared.event.What.{What}
use Rattle.sync_topo.specs.Topology.{Topology}
use Rattle.sync_topo.specs.Lines.{line_name}
use Rattle.net_rules.specs.Signals.{last_word, says_up, says_esmc, says_level}
use Rattle.net_rules.specs.History.{is_way_back}
use Rattle.esmc_frame.specs.Frame.{written_frame}
use Rattle.node_file.specs.declared.row.NodeWord.{NodeWord}
use Rattle.node_file.specs.declared.row.NodeWord.TheVariants.{Frame, Happens}
use Rattle.node_file.specs.declared.row.NodeRow.{NodeRow}
use Rattle.node_file.specs.NodeRow.{events_in, frames_on}
use Rattle.node_replay.specs.declared.inputs.InputNow.{InputNow}
use Rattle.node_replay.specs.declared.inputs.LastLevel.{LastLevel}
use Rattle.node_replay.specs.declared.lines_out.LineOut.{LineOut}
use Rattle.node_replay.specs.declared.shown.InputAndLevel.{InputAndLevel}
use Rattle.node_replay.specs.declared.frames.Sent.{Sent}
use Rattle.node_rules.specs.Replay.{last_of}
use Rattle.node_rules.specs.NodeText.{carried}
use Rattle.node_replay.specs.Keeping.{word_or, said_in}

-- what a row says of a matter
abbrev pub word_says : {A : Type 0} → (What → Option A) → NodeWord → Option A
word_says says (Frame line level) = None
word_says says (Happens what) = says what

abbrev pub row_says : {A : Type 0} → (What → Option A) → NodeRow → Option A
row_says says row = word_says says row.word

-- the level of a word, while it is heard
unfoldable pub heard_of : Option LastLevel → ℕ → Option Level
heard_of None t = None
heard_of (Some word) t = if nat_lt (t - word.at) hearing_time then word.level else None

abbrev pub said_or : Option Level → Option LastLevel → ℕ → Option LastLevel
said_or None last t = last
said_or (Some level) last t = Some (record { at = t; level = Some level })

-- the last word on the level of an input, and the level that it has then
abbrev pub last_after : InputId → Bool → Option LastLevel → List NodeRow → ℕ → Option LastLevel
last_after (Line line) up last here t = word_or (if up then last_of (frames_on line.0 here) else None) last t
last_after (Source source) up last here t = said_or (last_word (says_level source) (events_in here)) last t

abbrev pub level_after : InputId → Bool → Option LastLevel → Option Level → ℕ → Option Level
level_after (Line line) up last level t = heard_of last t
level_after (Source source) up last level t = if up then said_in last else level

-- an input after the rows of a millisecond
abbrev pub up_then : List NodeRow → InputNow → Bool
up_then here input = unwrap_or (last_word (says_up input.id) (events_in here)) input.up

abbrev pub last_then : List NodeRow → ℕ → InputNow → Option LastLevel
last_then here t input = last_after input.id (up_then here input) input.last here t

unfoldable pub input_after : List NodeRow → ℕ → InputNow → InputNow
input_after here t input = record {
  id = input.id;
  up = up_then here input;
  level = level_after input.id (up_then here input) (last_then here t input) input.level t;
  last = last_then here t input;
}

-- the level that the element gives a line, and what the line says where it speaks
abbrev pub level_out : Topology → InputAndLevel → ℕ → Level
level_out plan shown line = if is_way_back plan shown.taken line then do_not_use_of plan.option else shown.level

unfoldable pub said_by : Topology → InputAndLevel → ℕ → Bool → Option Level
said_by plan shown line speaks = if speaks then Some (level_out plan shown line) else None

-- a line out of the element after the rows of a millisecond
abbrev pub out_up : List NodeRow → LineOut → Bool
out_up here out = unwrap_or (last_word (says_up (Line out.line)) (events_in here)) out.up

abbrev pub out_esmc : List NodeRow → LineOut → Bool
out_esmc here out = unwrap_or (last_word (says_esmc out.line.0) (events_in here)) out.esmc

unfoldable pub out_after : Topology → List NodeRow → InputAndLevel → LineOut → LineOut
out_after plan here shown out = record {
  line = out.line;
  up = out_up here out;
  esmc = out_esmc here out;
  said = said_by plan shown out.line.0 (out_up here out && out_esmc here out);
  was = out.said;
}

-- the frame that goes out on a line in a millisecond, if one does
abbrev pub frame_for : ℕ → LineId → Option Level → Bool → Option Sent
frame_for t line None news = None
frame_for t line (Some level) news =
    if news || nat_eq (t % second) 0 then Some (record { line = line; level = level; event = news && nat_lt 0 t }) else None

unfoldable pub frame_of : ℕ → LineOut → Option Sent
frame_of t out = frame_for t out.line out.said (not (is_same_level out.said out.was))

-- the row of a frame
abbrev pub sent_row : Topology → ℕ → ℕ → Sent → List ℕ
sent_row plan element t sent =
    decimal t ++ codes "," ++ line_name plan sent.line.0 ++ codes ","
    ++ encode_lower (written_frame (carried element sent.level sent.event))
    ++ codes "\n"
