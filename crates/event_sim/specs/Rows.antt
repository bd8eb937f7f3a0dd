-- The rows of changes: in which milliseconds an element shows something else than in the one before,
-- and what it shows. Modes, levels and states are after G.781; rows and milliseconds are this
-- project's own.
use Rattle.std.specs.Prelude.{ℕ, zero, suc, Bool, not, ◌&&◌, List, [], ◌++◌, length, map, filter, Some}
use Rattle.std.specs.List.{range_with_len}
use Rattle.sync_ql.specs.Messages.{is_same_level}
use Rattle.sync_ql.specs.Moment.{Moment}
use Rattle.sync_ql.specs.Output.{clock_level_at, mode_at, state_at}
use Rattle.sync_topo.specs.declared.event.Event.{Event}
use Rattle.sync_topo.specs.Topology.{Topology}
use Rattle.net_rules.specs.Signals.{signals_by}
use Rattle.net_rules.specs.History.{settings_of, taken_by, element_past, out_at}
use Rattle.shown_words.specs.Sameness.{is_same_mode, is_same_state, is_same_taken}
use Rattle.event_sim.specs.declared.shown.Shown.{Shown}
use Rattle.event_sim.specs.declared.change.Change.{Change}

-- what is shown differs: the mode, the input that is taken, the level or the state
unfoldable pub shows_other : Shown → Shown → Bool
shows_other was now = not (is_same_mode was.mode now.mode && is_same_taken was.input now.input
    && is_same_level (Some was.level) (Some now.level) && is_same_state was.state now.state)

-- what an element shows after a past: its mode, the input that it takes, its level, and what its clock
-- follows
unfoldable pub shown_after : Topology → ℕ → List Moment → Shown
shown_after plan element past = record {
  mode = mode_at (settings_of plan element) past;
  input = taken_by plan element past;
  level = clock_level_at (settings_of plan element) past;
  state = state_at (settings_of plan element) past;
}

-- what it shows after the first n milliseconds, by the plan and all events. After none of them it
-- selects automatically, takes no input, has its own level, and runs free
abbrev pub shown_by : Topology → List Event → ℕ → ℕ → Shown
shown_by plan events element n =
    shown_after plan element (element_past plan (signals_by plan events) (out_at plan (signals_by plan events)) element n)

-- an element shows in a millisecond something else than before it
abbrev pub has_changed : Topology → List Event → ℕ → ℕ → Bool
has_changed plan events t element =
    shows_other (shown_by plan events element t) (shown_by plan events element (suc t))

-- the elements that do so, in their order
abbrev pub changed_in : Topology → List Event → ℕ → List ℕ
changed_in plan events t = filter (has_changed plan events t) (range_with_len 0 (length plan.elements))

-- the row of an element that shows this from a millisecond on
abbrev pub row_of : ℕ → ℕ → Shown → Change
row_of t element shown = record {
  at = t;
  element = element;
  mode = shown.mode;
  input = shown.input;
  level = shown.level;
  state = shown.state;
}

-- the rows of a millisecond, and those of the first n, in their order
abbrev pub rows_in : Topology → List Event → ℕ → List Change
rows_in plan events t =
    map (λ element. row_of t element (shown_by plan events element (suc t))) (changed_in plan events t)

abbrev pub rows_until : Topology → List Event → ℕ → List Change
rows_until plan events zero = []
rows_until plan events (suc t) = rows_until plan events t ++ rows_in plan events t
