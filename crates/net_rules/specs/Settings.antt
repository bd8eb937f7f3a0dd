-- What an element of a plan is set to, and its milliseconds, whatever settings it chooses by and whatever
-- levels its inputs have: its times, priorities, signals and commands are the plan's and the events' alone.
-- After G.781, selection, hold-off and wait-to-restore times, and external commands.
use Rattle.std.specs.Prelude.{ℕ, List, map, slice_get, Option, option_and_then}
use Rattle.std.specs.Option.{option_map_or}
use Rattle.sync_ql.specs.declared.levels.Level.{Level}
use Rattle.sync_ql.specs.Level.{do_not_use_of}
use Rattle.sync_ql.specs.Condition.{Timers, Signal}
use Rattle.sync_ql.specs.Moment.{InputMoment, Moment, Settings, selection_at}
use Rattle.sync_topo.specs.declared.element.Element.{Element}
use Rattle.sync_topo.specs.declared.input.InputId.{InputId}
use Rattle.sync_topo.specs.Topology.{Topology}
use Rattle.sync_topo.specs.Lines.{input_priority, inputs_of}
use Rattle.net_rules.specs.Signals.{Signals}

-- the times of an element; 0 where there is no such element
abbrev pub timers_of : Topology → ℕ → Timers
timers_of plan element = record {
  holdoff = option_map_or (λ (e : Element). e.holdoff) (slice_get plan.elements element) 0;
  wtr = option_map_or (λ (e : Element). e.wtr) (slice_get plan.elements element) 0;
}

-- the level of an element's own clock; do-not-use where there is no such element
abbrev pub own_level : Topology → ℕ → Level
own_level plan element =
    option_map_or (λ (e : Element). e.own) (slice_get plan.elements element) (do_not_use_of plan.option)

-- by what elements choose beside their times and priorities: an element's floor, the level that an input
-- has before any is told, and the number of an input's bundle
pub record Setting : Type 0 where
  pub floor : ℕ → Option Level
  pub first : InputId → Option Level
  pub bundle : InputId → ℕ

-- what an element of a plan is set to where elements choose so
abbrev pub settings_by : Setting → Topology → ℕ → Settings
settings_by setting plan element = record {
  own = own_level plan element;
  timers = timers_of plan element;
  floor = setting.floor element;
  priorities = map (input_priority plan) (inputs_of plan element);
  first_levels = map setting.first (inputs_of plan element);
  bundles = map setting.bundle (inputs_of plan element);
}

-- the level that each input has in each millisecond
abbrev pub InputLevels : Type 0
InputLevels = InputId → ℕ → Option Level

-- an input's signal in a millisecond
abbrev pub signal_at : Signals → InputId → ℕ → Signal
signal_at signals input t = record { up = signals.up input t; clear = signals.clear input t }

-- an input in a millisecond, where inputs have these levels
abbrev pub input_by : Signals → InputLevels → ℕ → InputId → InputMoment
input_by signals levels t input = record { signal = signal_at signals input t; level = levels input t }

-- an element in a millisecond, where inputs have these levels
abbrev pub moment_by : Topology → Signals → InputLevels → ℕ → ℕ → Moment
moment_by plan signals levels element t = record {
  inputs = map (λ input. input_by signals levels t input) (inputs_of plan element);
  commands = signals.commands element t;
}

-- the input that an element with these settings takes after a past
abbrev pub taken_with : Topology → Settings → ℕ → List Moment → Option InputId
taken_with plan settings element past = option_and_then (slice_get (inputs_of plan element)) (selection_at settings past)
