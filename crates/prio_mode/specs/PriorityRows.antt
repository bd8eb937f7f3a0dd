-- The rows of changes of elements that choose by priority alone: in which milliseconds an element shows
-- something else than in the one before, and what it shows. Modes and states are after G.781; rows and
-- milliseconds are this project's own.
use Rattle.std.specs.Prelude.{ℕ, zero, suc, Bool, not, ◌&&◌, if◌then◌else◌, List, [], ◌++◌, length, map, codes}
use Rattle.std.specs.Fmt.{decimal}
use Rattle.std.specs.List.{concat, range_with_len}
use Rattle.sync_ql.specs.Moment.{Moment}
use Rattle.sync_ql.specs.Output.{mode_at, state_at}
use Rattle.sync_topo.specs.declared.event.Event.{Event}
use Rattle.sync_topo.specs.Topology.{Topology}
use Rattle.net_rules.specs.Signals.{signals_by}
use Rattle.shown_words.specs.Sameness.{is_same_mode, is_same_state, is_same_taken}
use Rattle.shown_words.specs.Words.{state_word, choice_text}
use Rattle.prio_mode.specs.declared.shown.ShownByPriority.{ShownByPriority}
use Rattle.prio_mode.specs.PriorityAlone.{priority_settings, priority_past, priority_taken_by}

-- what is shown differs: the mode, the input that is taken, or the state
unfoldable pub shows_other : ShownByPriority → ShownByPriority → Bool
shows_other was now = not (is_same_mode was.mode now.mode && is_same_taken was.input now.input && is_same_state was.state now.state)

-- what an element shows after a past: its mode, the input that it takes, and what its clock follows. After
-- none it selects automatically, takes no input, and runs free
unfoldable pub shown_after : Topology → ℕ → List Moment → ShownByPriority
shown_after plan element past = record {
  mode = mode_at (priority_settings plan element) past;
  input = priority_taken_by plan element past;
  state = state_at (priority_settings plan element) past;
}

-- what it shows after the first n milliseconds, by the plan and all events
abbrev pub shown_by : Topology → List Event → ℕ → ℕ → ShownByPriority
shown_by plan events element n = shown_after plan element (priority_past plan (signals_by plan events) element n)

-- a change: t,element,mode,input,state
abbrev pub change_row : Topology → ℕ → ℕ → ShownByPriority → List ℕ
change_row plan t element shown =
    decimal t ++ codes "," ++ choice_text plan element shown.mode shown.input ++ codes "," ++ state_word shown.state
    ++ codes "\n"

-- the row of an element that shows something else now, and no row otherwise
abbrev pub row_between : Topology → ℕ → ℕ → ShownByPriority → ShownByPriority → List ℕ
row_between plan t element was now = if shows_other was now then change_row plan t element now else []

-- the row of an element in a millisecond, those of the first k elements in their order, those of all, and
-- those of the first n milliseconds
abbrev pub row_in : Topology → List Event → ℕ → ℕ → List ℕ
row_in plan events t element =
    row_between plan t element (shown_by plan events element t) (shown_by plan events element (suc t))

abbrev pub rows_before : Topology → List Event → ℕ → ℕ → List ℕ
rows_before plan events t k = concat (map (row_in plan events t) (range_with_len 0 k))

abbrev pub rows_in : Topology → List Event → ℕ → List ℕ
rows_in plan events t = rows_before plan events t (length plan.elements)

abbrev pub rows_until : Topology → List Event → ℕ → List ℕ
rows_until plan events zero = []
rows_until plan events (suc t) = rows_until plan events t ++ rows_in plan events t
