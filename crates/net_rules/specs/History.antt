-- The rules of a network over time: what each line carries, and what each element takes and gives.
-- The rules of one line and one element are those of sync_ql, over their pasts. What a network sends is
-- the one unknown: levels for each line and millisecond that obey the rules. Each delay is at least one
-- millisecond, so there is exactly one such history. After G.781 and G.8264.
use Rattle.std.specs.Prelude.{◌≡◌, ◌<◌, ℕ, zero, suc, ◌+◌, Bool, false, if◌then◌else◌, List, length, slice_get, Option, None, Some, option_and_then}
use Rattle.sync_ql.specs.declared.levels.Level.{Level}
use Rattle.sync_ql.specs.declared.rules.Cond.{Cond}
use Rattle.sync_ql.specs.declared.rules.ClockState.{ClockState}
use Rattle.sync_ql.specs.Level.{do_not_use_of}
use Rattle.sync_ql.specs.Pasts.{past_of}
use Rattle.sync_ql.specs.Condition.{failed_at, condition_at}
use Rattle.sync_ql.specs.Messages.{LineMoment, heard_at}
use Rattle.sync_ql.specs.Moment.{Moment, Settings}
use Rattle.sync_ql.specs.Output.{clock_level_at, state_at}
use Rattle.sync_topo.specs.declared.element.Element.{Element}
use Rattle.sync_topo.specs.declared.input.InputId.{InputId}
use Rattle.sync_topo.specs.declared.input.InputId.TheVariants.{Line, Source}
use Rattle.sync_topo.specs.Topology.{Topology}
use Rattle.sync_topo.specs.Lines.{line_count, line_input, sender_of, delay_of, element_of}
use Rattle.sync_topo.specs.Bundles.{line_bundle}
use Rattle.sync_topo.specs.Hops.{goes_back}
use Rattle.net_rules.specs.Signals.{Signals, planned_level}
use Rattle.net_rules.specs.Settings.{Setting, InputLevels, timers_of, settings_by, signal_at, moment_by, taken_with}

-- the levels sent on each line in each millisecond
abbrev pub Levels : Type 0
Levels = ℕ → ℕ → Level

-- the level that an input has before any is told: a source's is the plan's, and a line has none
abbrev pub first_level : Topology → InputId → Option Level
first_level plan (Line line) = None
first_level plan (Source source) = Some (planned_level plan source)

-- the number of an input's bundle: each source is one of its own
abbrev pub bundle_of_input : Topology → InputId → ℕ
bundle_of_input plan (Line line) = line_bundle plan line.0
bundle_of_input plan (Source source) = length plan.links + source

-- how the elements of a plan choose: by its floors, the levels of its inputs and its bundles
abbrev pub by_levels : Topology → Setting
by_levels plan = record {
  floor = λ element. option_and_then (λ (e : Element). e.floor) (slice_get plan.elements element);
  first = first_level plan;
  bundle = bundle_of_input plan;
}

-- what an element of a plan is set to
unfoldable pub settings_of : Topology → ℕ → Settings
settings_of plan element = settings_by (by_levels plan) plan element

-- a line in a millisecond, and the level that is heard on it, where these levels are sent
abbrev pub line_moment_at : Signals → Levels → ℕ → ℕ → LineMoment
line_moment_at signals out line t = record {
  up = signals.up (line_input line) t;
  esmc = signals.esmc line t;
  level = Some (out line t);
}

unfoldable pub heard : Topology → Signals → Levels → ℕ → ℕ → Option Level
heard plan signals out line t =
    heard_at (delay_of plan line) (past_of (line_moment_at signals out line) (suc t))

-- the level of an input in a millisecond: a line has the one heard on it, and a source its own
abbrev pub input_level : Signals → (ℕ → ℕ → Option Level) → InputLevels
input_level signals hears (Line line) t = hears line.0 t
input_level signals hears (Source source) t = Some (signals.source_level source t)

-- an element in a millisecond, where these levels are heard
unfoldable pub moment_at : Topology → Signals → (ℕ → ℕ → Option Level) → ℕ → ℕ → Moment
moment_at plan signals hears element t = moment_by plan signals (input_level signals hears) element t

-- the first n milliseconds of an element, the newest first, where these levels are sent
abbrev pub element_past : Topology → Signals → Levels → ℕ → ℕ → List Moment
element_past plan signals out element n =
    past_of (moment_at plan signals (heard plan signals out) element) n

-- the input that an element takes after a past
abbrev pub taken_by : Topology → ℕ → List Moment → Option InputId
taken_by plan element past = taken_with plan (settings_of plan element) element past

-- the input that an element takes in a millisecond, and its level
unfoldable pub taken_at : Topology → Signals → Levels → ℕ → ℕ → Option InputId
taken_at plan signals out element t = taken_by plan element (element_past plan signals out element (suc t))

unfoldable pub level_at : Topology → Signals → Levels → ℕ → ℕ → Level
level_at plan signals out element t =
    clock_level_at (settings_of plan element) (element_past plan signals out element (suc t))

abbrev pub element_state : Topology → Signals → Levels → ℕ → ℕ → ClockState
element_state plan signals out element t =
    state_at (settings_of plan element) (element_past plan signals out element (suc t))

-- an input is failed in a millisecond, and in which condition it is, by the times of its element
unfoldable pub failed_by : Topology → Signals → InputId → ℕ → Bool
failed_by plan signals input t =
    failed_at (timers_of plan (element_of plan input)) (past_of (signal_at signals input) (suc t))

abbrev pub condition_by : Topology → Signals → InputId → ℕ → Cond
condition_by plan signals input t =
    condition_at (timers_of plan (element_of plan input)) (past_of (signal_at signals input) (suc t))

-- a line leads back to where its sender takes its timing from: the input taken is a line over whose
-- bundle this one goes back
abbrev pub is_way_back : Topology → Option InputId → ℕ → Bool
is_way_back plan None line = false
is_way_back plan (Some (Source source)) line = false
is_way_back plan (Some (Line taken)) line = goes_back plan taken.0 line

-- the level that the rules send on a line, by the past of its sender: do-not-use where the line leads
-- back, and else the sender's level
abbrev pub sent_by : Topology → ℕ → List Moment → Level
sent_by plan line past =
    let element = sender_of plan line in
    if is_way_back plan (taken_by plan element past) line then do_not_use_of plan.option
    else clock_level_at (settings_of plan element) past

unfoldable pub sent_level : Topology → Signals → Levels → ℕ → ℕ → Level
sent_level plan signals out line t =
    sent_by plan line (element_past plan signals out (sender_of plan line) (suc t))

-- levels obey the rules where each is the one that the rules send
abbrev pub Obeys : Topology → Signals → Levels → Type 0
Obeys plan signals out =
    (line t : ℕ) → line < line_count plan → out line t ≡ sent_level plan signals out line t

-- the rules applied so many times, first to do-not-use on every line. Each delay is at least 1, so after
-- t + 1 times the levels up to t are those that obey, whatever one begins with
abbrev pub rounds : Topology → Signals → ℕ → Levels
rounds plan signals zero line t = do_not_use_of plan.option
rounds plan signals (suc n) line t = sent_level plan signals (rounds plan signals n) line t

-- the level sent on a line in a millisecond
unfoldable pub out_at : Topology → Signals → Levels
out_at plan signals line t = rounds plan signals (suc t) line t
