-- One element by the rules, over what its file says: the frames that came and what happened. The rules are those of a
-- network's element (net_rules); only what is heard is by the frames. Levels that are heard for five seconds after
-- G.8264; that of several frames of a millisecond the last counts is this project's own.
use Rattle.std.specs.Prelude.{ℕ, suc, Bool, ◌&&◌, nat_lt, if◌then◌else◌, List, [], ◌∷◌, length, Option, None, Some, option_and_then}
use Rattle.sync_ql.specs.declared.levels.Level.{Level}
use Rattle.sync_ql.specs.Pasts.{past_of, first_within}
use Rattle.sync_ql.specs.Messages.{LineMoment, hearing_time, is_news, is_sent}
use Rattle.sync_ql.specs.Moment.{Moment}
use Rattle.sync_ql.specs.Output.{clock_level_at}
use Rattle.sync_topo.specs.declared.input.InputId.{InputId}
use Rattle.sync_topo.specs.Topology.{Topology}
use Rattle.sync_topo.specs.Lines.{line_input}
use Rattle.net_rules.specs.Signals.{Signals, signals_by}
use Rattle.net_rules.specs.History.{settings_of, moment_at, taken_by, sent_by}
use Rattle.node_file.specs.declared.row.NodeRow.{NodeRow}
use Rattle.node_file.specs.NodeRow.{events_in, rows_at, frames_on}

-- the last of a list, if there is one
abbrev pub last_of : {A : Type 0} → List A → Option A
last_of [] = None
last_of (x ∷ []) = Some x
last_of (x ∷ y ∷ ys) = last_of (y ∷ ys)

-- what comes from outside: rows that happen are events
abbrev pub signals_in : Topology → List NodeRow → Signals
signals_in plan rows = signals_by plan (events_in rows)

-- what the frame says that counts on a line in a millisecond: the last one, where the line is up at its end. A frame
-- whose codes name no level counts too
abbrev pub counted : Topology → List NodeRow → ℕ → ℕ → Option (Option Level)
counted plan rows line t =
    if (signals_in plan rows).up (line_input line) t then last_of (frames_on line (rows_at t rows)) else None

-- the level that is heard: that of the last frame that counts, for five seconds
unfoldable pub heard_in : Topology → List NodeRow → ℕ → ℕ → Option Level
heard_in plan rows line t = option_and_then (λ level. level) (first_within hearing_time (past_of (counted plan rows line) (suc t)))

-- the first n milliseconds of the element, the newest first
abbrev pub node_past : Topology → List NodeRow → ℕ → ℕ → List Moment
node_past plan rows element n = past_of (moment_at plan (signals_in plan rows) (heard_in plan rows) element) n

-- what it takes in a millisecond, and its level
unfoldable pub node_taken : Topology → List NodeRow → ℕ → ℕ → Option InputId
node_taken plan rows element t = taken_by plan element (node_past plan rows element (suc t))

unfoldable pub node_level : Topology → List NodeRow → ℕ → ℕ → Level
node_level plan rows element t = clock_level_at (settings_of plan element) (node_past plan rows element (suc t))

-- the level that it gives a line out of it
unfoldable pub node_out : Topology → List NodeRow → ℕ → ℕ → ℕ → Level
node_out plan rows element line t = sent_by plan line (node_past plan rows element (suc t))

-- a line out of it, in a millisecond, and in the first n
abbrev pub out_moment : Topology → List NodeRow → ℕ → ℕ → ℕ → LineMoment
out_moment plan rows element line t = record {
  up = (signals_in plan rows).up (line_input line) t;
  esmc = (signals_in plan rows).esmc line t;
  level = Some (node_out plan rows element line t);
}

abbrev pub out_past : Topology → List NodeRow → ℕ → ℕ → ℕ → List LineMoment
out_past plan rows element line n = past_of (out_moment plan rows element line) n

-- a frame goes out on the line: with news, and each second while the line speaks
abbrev pub sends_frame : Topology → List NodeRow → ℕ → ℕ → ℕ → Bool
sends_frame plan rows element line t = is_sent (out_past plan rows element line (suc t))

-- it is an event message where it brings news, but for the first millisecond
abbrev pub is_event : List LineMoment → Bool
is_event past = is_news past && nat_lt 1 (length past)
