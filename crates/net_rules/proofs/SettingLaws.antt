-- The milliseconds of an element, input by input, whatever it chooses by and whatever levels its inputs have.
use Rattle.std.proofs.Common.{◌≡◌, ℕ, zero, suc, true, false, List, map, length, Option, None, Some, slice_get, refl, ap, ◌∙◌, arith}
use Rattle.std.specs.Prelude.{unwrap_or, option_and_then}
use Rattle.std.specs.List.{list_any, range_with_len}
use Rattle.std.proofs.lemmas.List.{length-map}
use Rattle.std.proofs.lemmas.Option.{none-some}
use Rattle.sync_text.proofs.Each.{each-at}
use Rattle.sync_ql.specs.declared.levels.Level.{Level}
use Rattle.sync_ql.specs.declared.rules.InputEvent.{InputEvent}
use Rattle.sync_ql.specs.Pasts.{past_of}
use Rattle.sync_ql.specs.Condition.{is_up}
use Rattle.sync_ql.specs.Moment.{InputMoment, Moment, Settings, input_of, signals_of, selection_at}
use Rattle.sync_ql.specs.Told.{last_said, says_up, says_level, clears, commands_in, last_level, input_after, moment_after}
use Rattle.sync_topo.specs.declared.input.InputId.{InputId}
use Rattle.sync_topo.specs.Topology.{Topology}
use Rattle.sync_topo.specs.Lines.{inputs_of, input_priority}
use Rattle.net_rules.specs.Signals.{Signals}
use Rattle.net_rules.specs.Inputs.{IsInputOf}
use Rattle.net_rules.specs.Settings.{Setting, InputLevels, settings_by, signal_at, input_by, moment_by, taken_with}
use Rattle.net_rules.proofs.InputLaws.{inputs-are}
use Rattle.net_rules.proofs.Lists.{map-at, map-places}

-- an input of an element in a millisecond
pub input-by : (plan : Topology) (signals : Signals) (levels : InputLevels) (element t i : ℕ) (input : InputId)
    → slice_get (inputs_of plan element) i ≡ Some input
    → input_of i (moment_by plan signals levels element t) ≡ input_by signals levels t input
input-by plan signals levels element t i input at =
    map-at (input_by signals levels t) (inputs_of plan element) i input
    (record { signal = record { up = true; clear = false }; level = None }) at

-- its signals in the first milliseconds
pub signals-by : (plan : Topology) (signals : Signals) (levels : InputLevels) (element n i : ℕ) (input : InputId)
    → slice_get (inputs_of plan element) i ≡ Some input
    → signals_of i (past_of (moment_by plan signals levels element) n) ≡ past_of (signal_at signals input) n
signals-by plan signals levels element zero i input at = refl
signals-by plan signals levels element (suc n) i input at =
    rw (input-by plan signals levels element n i input at, signals-by plan signals levels element n i input at) refl

-- the level that an input had last, before a millisecond
abbrev pub level_until : Setting → InputLevels → InputId → ℕ → Option Level
level_until setting levels input zero = setting.first input
level_until setting levels input (suc t) = levels input t

pub level-by : (setting : Setting) (plan : Topology) (signals : Signals) (levels : InputLevels) (element n i : ℕ) (input : InputId)
    → slice_get (inputs_of plan element) i ≡ Some input
    → last_level (settings_by setting plan element) i (past_of (moment_by plan signals levels element) n) ≡ level_until setting levels input n
level-by setting plan signals levels element zero i input at = map-at setting.first (inputs_of plan element) i input None at
level-by setting plan signals levels element (suc t) i input at =
    ap (λ (told : InputMoment). told.level) (input-by plan signals levels element t i input at)

-- an element has a priority for each input
pub priorities-by : (setting : Setting) (plan : Topology) (element : ℕ)
    → length (settings_by setting plan element).priorities ≡ length (inputs_of plan element)
priorities-by setting plan element = length-map (inputs_of plan element) (input_priority plan)

-- what is taken is an input of the element
pub taken-own : (plan : Topology) (settings : Settings) (element : ℕ) (past : List Moment) (input : InputId)
    → taken_with plan settings element past ≡ Some input → IsInputOf plan element input
taken-own plan settings element past input taken = by (selection_at settings past) taken
  where
    by : (o : Option ℕ) → option_and_then (slice_get (inputs_of plan element)) o ≡ Some input → IsInputOf plan element input
    by None is = absurd (none-some input is)
    by (Some place) is = each-at (IsInputOf plan element) (inputs_of plan element) place input (inputs-are plan element) is

-- words say of the input at a place what it is in a millisecond: what they don't speak of is as it was
pub record IsSaid (setting : Setting) (signals : Signals) (levels : InputLevels) (words : List InputEvent) (t i : ℕ) (input : InputId) : Type 0 where
  pub up : unwrap_or (last_said (says_up i) words) (is_up (past_of (signal_at signals input) t)) ≡ signals.up input t
  pub clear : list_any (clears i) words ≡ signals.clear input t
  pub level : unwrap_or (last_said (says_level i) words) (level_until setting levels input t) ≡ levels input t

-- words that say of each input what it is, and give the commands, make the millisecond
module _ (setting : Setting) (plan : Topology) (signals : Signals) (levels : InputLevels) (element t : ℕ) (words : List InputEvent) where
  abbrev past : List Moment
  past = past_of (moment_by plan signals levels element) t

  input-said : (i : ℕ) (input : InputId) → slice_get (inputs_of plan element) i ≡ Some input → IsSaid setting signals levels words t i input
      → input_after (settings_by setting plan element) past words i ≡ input_by signals levels t input
  input-said i input at said = rw (up, said.clear, level) refl
    where
      up : unwrap_or (last_said (says_up i) words) (is_up (signals_of i past)) ≡ signals.up input t
      up = ap (λ before. unwrap_or (last_said (says_up i) words) (is_up before)) (signals-by plan signals levels element t i input at) ∙ said.up

      level : unwrap_or (last_said (says_level i) words) (last_level (settings_by setting plan element) i past) ≡ levels input t
      level = ap (unwrap_or (last_said (says_level i) words)) (level-by setting plan signals levels element t i input at) ∙ said.level

  pub told-by : ((i : ℕ) (input : InputId) → slice_get (inputs_of plan element) i ≡ Some input → IsSaid setting signals levels words t i input)
      → commands_in words ≡ signals.commands element t
      → moment_after (settings_by setting plan element) (past_of (moment_by plan signals levels element) t) words ≡ moment_by plan signals levels element t
  unfolding moment_after
  told-by said commands = rw (inputs, commands) refl
    where
      inputs : map (input_after (settings_by setting plan element) past words) (range_with_len 0 (length (settings_by setting plan element).priorities))
          ≡ map (input_by signals levels t) (inputs_of plan element)
      inputs = rw (priorities-by setting plan element) (map-places _ _ 0 (inputs_of plan element)
          (λ k i input at is. let here : k ≡ i = omega (arith, is) in rw here (input-said i input at (said i input at))))
