-- What a network is at in one millisecond: the commands so far, what each element chose, and what
-- each input gives. This project's own; the terms are those of G.781.
use Rattle.std.specs.Prelude.{ℕ, suc, List, [], ◌++◌, length, map, codes, Option, None, Some, option_and_then, slice_get}
use Rattle.std.specs.List.{concat, range_with_len}
use Rattle.std.specs.Option.{option_map_or}
use Rattle.sync_ql.specs.declared.levels.Level.{Level}
use Rattle.sync_ql.specs.declared.rules.ClockState.{ClockState}
use Rattle.sync_ql.specs.Level.{name_of}
use Rattle.sync_ql.specs.Moment.{Moment, Settings}
use Rattle.sync_ql.specs.Output.{clock_level_at, mode_at, switched_at, state_at}
use Rattle.sync_topo.specs.declared.input.InputId.{InputId}
use Rattle.sync_topo.specs.declared.event.Event.{Event}
use Rattle.sync_topo.specs.Topology.{Topology}
use Rattle.sync_topo.specs.Lines.{inputs_of}
use Rattle.net_rules.specs.Signals.{Signals, signals_by}
use Rattle.net_rules.specs.Settings.{taken_with}
use Rattle.net_rules.specs.History.{Levels, settings_of, heard, input_level, element_past, condition_by, out_at}
use Rattle.shown_words.specs.Words.{choice_text, state_word, taken_name}
use Rattle.trace_report.specs.Words.{condition_text}
use Rattle.inspection.specs.declared.elements.InspectedElement.{InspectedElement}
use Rattle.inspection.specs.declared.inputs.InspectedInput.{InspectedInput}
use Rattle.inspection.specs.Verdict.{verdict_at, verdict_word}
use Rattle.inspection.specs.Commands.{commands_part}

-- what an element that is set so has chosen after a past, among its inputs: how, the input that is
-- switched to, the one that is taken, its level, and what its clock follows
unfoldable pub element_after : Topology → ℕ → Settings → List Moment → InspectedElement
element_after plan element settings past = record {
  mode = mode_at settings past;
  switched = option_and_then (slice_get (inputs_of plan element)) (switched_at settings past);
  taken = taken_with plan settings element past;
  level = clock_level_at settings past;
  state = state_at settings past;
}

-- level,state at the end of a row
abbrev pub clock_text : Level → ClockState → List ℕ
clock_text level state = name_of level ++ codes "," ++ state_word state ++ codes "\n"

-- an element: element,mode,switched,taken,level,state
abbrev pub element_row : Topology → ℕ → InspectedElement → List ℕ
element_row plan element it =
    choice_text plan element it.mode it.switched ++ codes "," ++ taken_name plan it.taken ++ codes ","
    ++ clock_text it.level it.state

-- the name of a level, or that there is none
abbrev pub level_word : Option Level → List ℕ
level_word None = codes "none"
level_word (Some level) = name_of level

-- an input: element,input,condition,left,level,verdict
abbrev pub inspected_row : Topology → ℕ → InputId → InspectedInput → List ℕ
inspected_row plan element input it =
    condition_text plan element input it.condition ++ codes "," ++ level_word it.level ++ codes ","
    ++ verdict_word it.verdict ++ codes "\n"

-- an element at the end of a millisecond, by the rules
abbrev pub element_in : Topology → Signals → Levels → ℕ → ℕ → InspectedElement
element_in plan signals out t element =
    element_after plan element (settings_of plan element) (element_past plan signals out element (suc t))

-- an input, which stands at a place of an element: its condition, the level that is heard on it or
-- that its source has, and why it is taken or isn't
abbrev pub input_in : Topology → Signals → Levels → ℕ → ℕ → ℕ → InputId → InspectedInput
input_in plan signals out t element place input = record {
  condition = condition_by plan signals input t;
  level = input_level signals (heard plan signals out) input t;
  verdict = verdict_at (settings_of plan element) (element_past plan signals out element (suc t)) place;
}

-- the row of the input at a place, those of an element, and those of all
abbrev pub row_in : Topology → Signals → Levels → ℕ → ℕ → ℕ → List ℕ
row_in plan signals out t element place =
    option_map_or (λ input. inspected_row plan element input (input_in plan signals out t element place input))
    (slice_get (inputs_of plan element) place) []

abbrev pub rows_in : Topology → Signals → Levels → ℕ → ℕ → List ℕ
rows_in plan signals out t element =
    concat (map (row_in plan signals out t element) (range_with_len 0 (length (inputs_of plan element))))

abbrev pub elements_part : Topology → List Event → ℕ → List ℕ
elements_part plan events t = codes "elements\n"
    ++ concat (map (λ element. element_row plan element (element_in plan (signals_by plan events) (out_at plan (signals_by plan events)) t element))
    (range_with_len 0 (length plan.elements)))

abbrev pub inputs_part : Topology → List Event → ℕ → List ℕ
inputs_part plan events t = codes "inputs\n"
    ++ concat (map (rows_in plan (signals_by plan events) (out_at plan (signals_by plan events)) t) (range_with_len 0 (length plan.elements)))

-- the whole text: the commands up to the millisecond, and elements and inputs at its end
abbrev pub inspection : Topology → List Event → ℕ → List ℕ
inspection plan events t = commands_part plan events (suc t) ++ elements_part plan events t ++ inputs_part plan events t
