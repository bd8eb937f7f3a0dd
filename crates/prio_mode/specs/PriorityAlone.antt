-- Elements that choose by priority alone: each input has one and the same level in every millisecond, so that
-- levels decide nothing. After G.781, selection, external commands, and hold-off and wait-to-restore times; the
-- rest is this project's own.
use Rattle.std.specs.Prelude.{ℕ, suc, List, Option, Some}
use Rattle.sync_ql.specs.Pasts.{past_of}
use Rattle.sync_ql.specs.Moment.{Moment, Settings}
use Rattle.sync_topo.specs.declared.input.InputId.{InputId}
use Rattle.sync_topo.specs.Topology.{Topology}
use Rattle.net_rules.specs.Signals.{Signals}
use Rattle.net_rules.specs.Settings.{InputLevels, settings_by, moment_by, taken_with}
use Rattle.net_rules.specs.Walks.{Taken}
use Rattle.net_words.specs.NewElements.{one_level, by_priority}

-- what an element of a plan is set to
unfoldable pub priority_settings : Topology → ℕ → Settings
priority_settings plan element = settings_by (by_priority plan) plan element

-- each input has the one level in each millisecond
abbrev pub priority_levels : Topology → InputLevels
priority_levels plan input t = Some (one_level plan.option)

-- an element in a millisecond
unfoldable pub priority_moment : Topology → Signals → ℕ → ℕ → Moment
priority_moment plan signals element t = moment_by plan signals (priority_levels plan) element t

-- its first n milliseconds
abbrev pub priority_past : Topology → Signals → ℕ → ℕ → List Moment
priority_past plan signals element n = past_of (priority_moment plan signals element) n

-- the input that an element takes after a past
abbrev pub priority_taken_by : Topology → ℕ → List Moment → Option InputId
priority_taken_by plan element past = taken_with plan (priority_settings plan element) element past

-- the input that an element takes in a millisecond
unfoldable pub priority_taken_at : Topology → Signals → ℕ → ℕ → Option InputId
priority_taken_at plan signals element t = priority_taken_by plan element (priority_past plan signals element (suc t))

-- what each element takes in a millisecond
abbrev pub priority_taken_in : Topology → Signals → ℕ → Taken
priority_taken_in plan signals t element = priority_taken_at plan signals element t
