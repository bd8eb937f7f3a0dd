-- What one element gives: its level, what it sends back on each input, its mode and its state.
-- After G.781, quality level of a clock, do not use on the way back, and clock modes.
use Rattle.std.specs.Prelude.{ℕ, Bool, true, false, ◌||◌, nat_eq, if◌then◌else◌, List, [], ◌∷◌, slice_index, Option, None, Some, is_some, unwrap_or, option_and_then}
use Rattle.std.specs.Option.{option_or}
use Rattle.sync_ql.specs.declared.levels.Level.{Level}
use Rattle.sync_ql.specs.declared.rules.Mode.{Mode}
use Rattle.sync_ql.specs.declared.rules.Mode.TheVariants as mode
use Rattle.sync_ql.specs.declared.rules.ClockState.{ClockState}
use Rattle.sync_ql.specs.declared.rules.ClockState.TheVariants.{FreeRun, Locked, Holdover}
use Rattle.sync_ql.specs.Level.{do_not_use_of}
use Rattle.sync_ql.specs.Moment.{Moment, Settings, level_now, switches_at, selection_at}

-- the level of the input that is taken, or that of the own clock without one
unfoldable pub clock_level_at : Settings → List Moment → Level
clock_level_at settings past =
    unwrap_or (option_and_then (λ i. level_now i past) (selection_at settings past)) settings.own

-- the number of the bundle of the input at a place
abbrev pub bundle_of : Settings → ℕ → ℕ
bundle_of settings i = slice_index settings.bundles i

-- whether what is sent back on an input goes back to where the element takes its timing from: on
-- each input of the bundle of the one that is taken. That parallel links share it is this project's own
abbrev pub goes_back : Settings → Option ℕ → ℕ → Bool
goes_back settings None i = false
goes_back settings (Some taken) i = nat_eq (bundle_of settings taken) (bundle_of settings i)

-- the level that is sent back on an input: do-not-use to where the timing comes from, and the
-- element's level to all others
unfoldable pub sent_back_at : Settings → List Moment → ℕ → Level
sent_back_at settings past i =
    if goes_back settings (selection_at settings past) i then do_not_use_of settings.own.option
    else clock_level_at settings past

-- forced or manual by the switch that stands, and otherwise automatic
abbrev pub mode_of : Option ℕ → Option ℕ → Mode
mode_of (Some forced) manual = mode.Forced
mode_of None (Some manual) = mode.Manual
mode_of None None = mode.Auto

unfoldable pub mode_at : Settings → List Moment → Mode
mode_at settings past = mode_of (switches_at settings past).forced (switches_at settings past).manual

-- the input that is switched to: the forced one, or where none is the manual one
unfoldable pub switched_at : Settings → List Moment → Option ℕ
switched_at settings past = option_or (switches_at settings past).forced (switches_at settings past).manual

-- whether an input was taken in any of the milliseconds
abbrev pub was_locked : Settings → List Moment → Bool
was_locked settings [] = false
was_locked settings (now ∷ before) =
    is_some (selection_at settings (now ∷ before)) || was_locked settings before

-- locked while an input is taken, in holdover without one where there was one, else free-running
abbrev pub state_of : Option ℕ → Bool → ClockState
state_of (Some i) earlier = Locked
state_of None true = Holdover
state_of None false = FreeRun

unfoldable pub state_at : Settings → List Moment → ClockState
state_at settings past = state_of (selection_at settings past) (was_locked settings past)
