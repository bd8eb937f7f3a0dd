-- A millisecond of one element by what is told in it: what isn't told stays as it was.
use Rattle.std.specs.Prelude.{◌≡◌, ◌<◌, ℕ, zero, suc, ◌-◌, Bool, false, nat_eq, if◌then◌else◌, List, [], ◌∷◌, length, map, slice_index_or, Option, None, Some, unwrap_or, ⊤}
use Rattle.std.specs.List.{list_any, range_with_len}
use Rattle.std.specs.Option.{option_or}
use Rattle.sync_ql.specs.declared.levels.NetOption.{NetOption}
use Rattle.sync_ql.specs.declared.levels.Level.{Level}
use Rattle.sync_ql.specs.declared.rules.Cmd.{Cmd}
use Rattle.sync_ql.specs.declared.rules.InputEvent.{InputEvent}
use Rattle.sync_ql.specs.declared.rules.InputEvent.TheVariants.{Signal, Heard, ClearWtr, Command}
use Rattle.sync_ql.specs.Condition.{is_up}
use Rattle.sync_ql.specs.Switches.{NamesInput}
use Rattle.sync_ql.specs.Moment.{InputMoment, Moment, Settings, input_of, signals_of}

-- what the last event of a list that speaks of a matter says of it
abbrev pub last_said : {A : Type 0} → (InputEvent → Option A) → List InputEvent → Option A
last_said says [] = None
last_said says (event ∷ events) = option_or (last_said says events) (says event)

-- whether the input at a place is up, and which level it has, where an event speaks of it
abbrev pub says_up : ℕ → InputEvent → Option Bool
says_up i (Signal k up) = if nat_eq k i then Some up else None
says_up i event = None

abbrev pub says_level : ℕ → InputEvent → Option (Option Level)
says_level i (Heard k level) = if nat_eq k i then Some level else None
says_level i event = None

-- whether an event clears the wait-to-restore time of the input at a place
abbrev pub clears : ℕ → InputEvent → Bool
clears i (ClearWtr k) = nat_eq k i
clears i event = false

-- the commands among some events, in their order
abbrev pub commands_in : List InputEvent → List Cmd
commands_in [] = []
commands_in (Command command ∷ events) = command ∷ commands_in events
commands_in (event ∷ events) = commands_in events

-- the level that the input at a place had last; before 0 it is the first one that it is set to
abbrev pub last_level : Settings → ℕ → List Moment → Option Level
last_level settings i [] = slice_index_or settings.first_levels i None
last_level settings i (now ∷ before) = (input_of i now).level

-- an input in the millisecond after a past: as it is told last, and else as before
abbrev pub input_after : Settings → List Moment → List InputEvent → ℕ → InputMoment
input_after settings past events i = record {
  signal = record {
    up = unwrap_or (last_said (says_up i) events) (is_up (signals_of i past));
    clear = list_any (clears i) events;
  };
  level = unwrap_or (last_said (says_level i) events) (last_level settings i past);
}

-- the millisecond after a past, in which this is told
unfoldable pub moment_after : Settings → List Moment → List InputEvent → Moment
moment_after settings past events = record {
  inputs = map (input_after settings past events) (range_with_len 0 (length settings.priorities));
  commands = commands_in events;
}

-- one more millisecond, in which nothing is told
abbrev pub quiet_moment : Settings → List Moment → Moment
quiet_moment settings past = moment_after settings past []

-- k more milliseconds, in which nothing is told
abbrev pub quiet_moments : Settings → ℕ → List Moment → List Moment
quiet_moments settings zero past = past
quiet_moments settings (suc k) past =
    quiet_moment settings (quiet_moments settings k past) ∷ quiet_moments settings k past

-- the past made n milliseconds long by milliseconds in which nothing is told
abbrev pub moments_until : Settings → ℕ → List Moment → List Moment
moments_until settings n past = quiet_moments settings (n - length past) past

-- the level, if there is one, is of an option
abbrev pub IsOfOption : NetOption → Option Level → Type 0
IsOfOption option None = ⊤
IsOfOption option (Some level) = level.option ≡ option

-- an event names one of the element's inputs or none, and a level of its option or none
abbrev pub FitsElement : Settings → InputEvent → Type 0
FitsElement settings (Signal i up) = i < length settings.priorities
FitsElement settings (Heard i level) = (i < length settings.priorities) × IsOfOption settings.own.option level
FitsElement settings (ClearWtr i) = i < length settings.priorities
FitsElement settings (Command command) = NamesInput (length settings.priorities) command
