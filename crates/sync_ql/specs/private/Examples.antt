-- The rules at values that can be counted by hand.
use Rattle.std.specs.Prelude.{◌≡◌, ℕ, true, false, List, [], ◌∷◌, codes, Option, None, Some, map, option_map, unwrap_or, refl}
use Rattle.std.proofs.Common.{lit<}
use Rattle.std.proofs.Math.Decide.{dec_lt}
use Rattle.sync_ql.specs.declared.levels.NetOption.{NetOption}
use Rattle.sync_ql.specs.declared.levels.NetOption.TheVariants.{I, II}
use Rattle.sync_ql.specs.declared.levels.Level.{Level}
use Rattle.sync_ql.specs.declared.rules.Cond.{Cond}
use Rattle.sync_ql.specs.declared.rules.Cond.TheVariants.{Good, HoldOff, Failed, Restoring}
use Rattle.sync_ql.specs.declared.rules.Cmd.{Cmd}
use Rattle.sync_ql.specs.declared.rules.Cmd.TheVariants.{Lockout, Unlock, Forced, Manual, Clear}
use Rattle.sync_ql.specs.declared.rules.InputEvent.{InputEvent}
use Rattle.sync_ql.specs.declared.rules.InputEvent.TheVariants.{Signal as Tells, Heard, ClearWtr, Command}
use Rattle.sync_ql.specs.declared.rules.Mode.{Mode}
use Rattle.sync_ql.specs.declared.rules.Mode.TheVariants as mode
use Rattle.sync_ql.specs.declared.rules.ClockState.{ClockState}
use Rattle.sync_ql.specs.declared.rules.ClockState.TheVariants.{FreeRun, Locked, Holdover}
use Rattle.sync_ql.specs.Level.{name_of, place_of_name, level_of_code, level_of_codes, do_not_use_of}
use Rattle.sync_ql.specs.Condition.{Signal, Timers, failed_at, left_at, condition_at}
use Rattle.sync_ql.specs.Switches.{unswitched, after_commands}
use Rattle.sync_ql.specs.Moment.{Moment, Settings, switches_at, selection_at}
use Rattle.sync_ql.specs.Told.{moment_after}
use Rattle.sync_ql.specs.Output.{clock_level_at, sent_back_at, mode_at, state_at}

-- a hold-off time of 2 milliseconds, and a wait-to-restore time of 3
abbrev times : Timers
times = record { holdoff = 2; wtr = 3 }

abbrev up : Signal
up = record { up = true; clear = false }

abbrev down : Signal
down = record { up = false; clear = false }

abbrev cleared : Signal
cleared = record { up = true; clear = true }

-- the condition in each millisecond, the newest first
abbrev conditions : List Signal → List Cond
conditions [] = []
conditions (now ∷ before) = condition_at times (now ∷ before) ∷ conditions before

-- down for three milliseconds, then up for four
fails_and_restores :
    conditions (up ∷ up ∷ up ∷ up ∷ down ∷ down ∷ down ∷ up ∷ [])
    ≡ Good ∷ Restoring 1 ∷ Restoring 2 ∷ Restoring 3 ∷ Failed ∷ HoldOff 1 ∷ HoldOff 2 ∷ Good ∷ []
unfolding failed_at left_at condition_at
fails_and_restores = refl

-- up again within hold-off
holds_off : conditions (down ∷ up ∷ down ∷ down ∷ []) ≡ HoldOff 2 ∷ Good ∷ HoldOff 1 ∷ HoldOff 2 ∷ []
unfolding failed_at left_at condition_at
holds_off = refl

-- down for one millisecond while restoring, and then cleared
restarts_and_clears :
    conditions (cleared ∷ up ∷ down ∷ up ∷ up ∷ down ∷ down ∷ down ∷ [])
    ≡ Good ∷ Restoring 3 ∷ Failed ∷ Restoring 2 ∷ Restoring 3 ∷ Failed ∷ HoldOff 1 ∷ HoldOff 2 ∷ []
unfolding failed_at left_at condition_at
restarts_and_clears = refl

-- where a level of option I stands that has this name
abbrev place : List ℕ → ℕ
place name = unwrap_or (place_of_name I name) 0

abbrev prc_level : Level
prc_level = record { option = I; place = place (codes "QL-PRC"); is_row = lit< tt }

-- the level that clocks of elements have
abbrev sec : Level
sec = record { option = I; place = place (codes "QL-SEC"); is_row = lit< tt }

abbrev prc : Option Level
prc = Some prc_level

abbrev ssu_a : Option Level
ssu_a = Some (record { option = I; place = place (codes "QL-SSU-A"); is_row = lit< tt })

abbrev ssu_b : Option Level
ssu_b = Some (record { option = I; place = place (codes "QL-SSU-B"); is_row = lit< tt })

abbrev dnu : Option Level
dnu = Some (do_not_use_of I)

-- a lockout ends a forced switch, which is then rejected until the input is unlocked
locks_out :
    after_commands (unswitched 2) (Manual 0 ∷ Forced 1 ∷ Lockout 1 ∷ Forced 1 ∷ [])
    ≡ record { locked = false ∷ true ∷ []; forced = None; manual = None }
locks_out = refl

-- no manual switch is made while an input is forced
forced_first :
    after_commands (unswitched 2) (Forced 1 ∷ Manual 0 ∷ [])
    ≡ record { locked = false ∷ false ∷ []; forced = Some 1; manual = None }
forced_first = refl

clears :
    after_commands (unswitched 2) (Lockout 0 ∷ Forced 1 ∷ Clear ∷ Unlock 0 ∷ Manual 0 ∷ [])
    ≡ record { locked = false ∷ false ∷ []; forced = None; manual = Some 0 }
clears = refl

abbrev set_to : Timers → Option Level → List ℕ → List (Option Level) → Settings
set_to timers floor priorities first_levels = record { own = sec; timers = timers; floor = floor; priorities = priorities; first_levels = first_levels; bundles = 0 ∷ 1 ∷ [] }

-- an element of two inputs with these priority numbers, without a floor
abbrev two_inputs : ℕ → ℕ → Settings
two_inputs a b = set_to (record { holdoff = 2; wtr = 0 }) None (a ∷ b ∷ []) (None ∷ None ∷ [])

-- the same element with a floor
abbrev with_floor : Option Level → Settings
with_floor floor = set_to (record { holdoff = 2; wtr = 0 }) floor (1 ∷ 2 ∷ []) (None ∷ None ∷ [])

-- both inputs up, or the first down, with these levels, and some commands
abbrev both : Option Level → Option Level → List Cmd → Moment
both a b commands = record { inputs = record { signal = up; level = a } ∷ record { signal = up; level = b } ∷ []; commands = commands }

abbrev first_down : Option Level → Option Level → Moment
first_down a b = record { inputs = record { signal = down; level = a } ∷ record { signal = up; level = b } ∷ []; commands = [] }

-- the input that is taken in each millisecond, the newest first
abbrev selections : Settings → List Moment → List (Option ℕ)
selections settings [] = []
selections settings (now ∷ before) = selection_at settings (now ∷ before) ∷ selections settings before

-- on a tie the second input stays, though the first is good again
stays_on_a_tie :
    selections (two_inputs 1 1) (both prc prc [] ∷ first_down prc prc ∷ first_down prc prc ∷ first_down prc prc ∷ both prc prc [] ∷ [])
    ≡ Some 1 ∷ Some 1 ∷ Some 0 ∷ Some 0 ∷ Some 0 ∷ []
unfolding failed_at switches_at selection_at
stays_on_a_tie = refl

-- a forced input that may not be used leaves the element without one, until it is locked out
forced_without_level :
    selections (two_inputs 1 2) (both prc dnu (Forced 1 ∷ []) ∷ both prc dnu (Lockout 1 ∷ []) ∷ both prc dnu (Forced 1 ∷ []) ∷ both prc dnu [] ∷ both prc ssu_a [] ∷ [])
    ≡ Some 0 ∷ Some 0 ∷ None ∷ Some 0 ∷ Some 0 ∷ []
unfolding failed_at switches_at selection_at
forced_without_level = refl

-- a manual switch ends where another level is better, and does not come back
manual_ends :
    selections (two_inputs 1 2) (both prc prc [] ∷ both prc ssu_a [] ∷ both prc prc (Manual 1 ∷ []) ∷ both prc prc [] ∷ [])
    ≡ Some 0 ∷ Some 0 ∷ Some 1 ∷ Some 0 ∷ []
unfolding failed_at switches_at selection_at
manual_ends = refl

-- a level equal to the floor may be used, and a worse one not
floor_is_used :
    selections (with_floor ssu_a) (both dnu ssu_b [] ∷ both ssu_b ssu_a [] ∷ both ssu_a prc [] ∷ [])
    ≡ None ∷ Some 1 ∷ Some 1 ∷ []
unfolding failed_at switches_at selection_at
floor_is_used = refl

-- an element of two inputs by what it is told in each millisecond, the newest first
abbrev told : Settings → List (List InputEvent) → List Moment
told settings [] = []
told settings (now ∷ before) = moment_after settings (told settings before) now ∷ told settings before

-- what it answers: the input that it takes, its level, its mode and its state
record Answer : Type 0 where
  selection : Option ℕ
  level : Level
  mode : Mode
  state : ClockState

abbrev answer : Option ℕ → Level → Mode → ClockState → Answer
answer selection level mode state = record { selection = selection; level = level; mode = mode; state = state }

abbrev answers : Settings → List Moment → List Answer
answers settings [] = []
answers settings (now ∷ before) =
    answer (selection_at settings (now ∷ before)) (clock_level_at settings (now ∷ before)) (mode_at settings (now ∷ before)) (state_at settings (now ∷ before))
    ∷ answers settings before

-- an element whose two inputs have these priority numbers and first levels
abbrev starts_with : Timers → List ℕ → Option Level → Option Level → Settings
starts_with timers priorities a b = set_to timers None priorities (a ∷ b ∷ [])

-- on a tie the second input stays, though the first is good again
tie_after_a_failure :
    selections (starts_with (record { holdoff = 2; wtr = 0 }) (1 ∷ 1 ∷ []) prc prc)
    (told (starts_with (record { holdoff = 2; wtr = 0 }) (1 ∷ 1 ∷ []) prc prc)
    ((Tells 0 true ∷ []) ∷ [] ∷ [] ∷ (Tells 0 false ∷ []) ∷ [] ∷ []))
    ≡ Some 1 ∷ Some 1 ∷ Some 0 ∷ Some 0 ∷ Some 0 ∷ []
unfolding failed_at switches_at selection_at moment_after
tie_after_a_failure = refl

-- a forced switch to an input that may not be used leaves the element without one; a lockout ends
-- the switch, and it is not made again
forced_then_locked_out :
    answers (starts_with times (1 ∷ 2 ∷ []) prc ssu_a)
    (told (starts_with times (1 ∷ 2 ∷ []) prc ssu_a)
    ((Command (Forced 1) ∷ []) ∷ (Command (Lockout 1) ∷ []) ∷ (Command (Forced 1) ∷ []) ∷ (Heard 1 dnu ∷ []) ∷ [] ∷ []))
    ≡ answer (Some 0) prc_level mode.Auto Locked
    ∷ answer (Some 0) prc_level mode.Auto Locked
    ∷ answer None sec mode.Forced Holdover
    ∷ answer (Some 0) prc_level mode.Auto Locked
    ∷ answer (Some 0) prc_level mode.Auto Locked
    ∷ []
unfolding failed_at switches_at selection_at moment_after clock_level_at mode_at state_at
forced_then_locked_out = refl

-- free-running before any input, and in holdover when the last one is gone; a manual switch ends
-- where the other input has a better level
first_lock_and_loss :
    answers (starts_with times (1 ∷ 2 ∷ []) None None)
    (told (starts_with times (1 ∷ 2 ∷ []) None None)
    ((Heard 0 None ∷ Heard 1 dnu ∷ []) ∷ (Heard 0 prc ∷ Heard 1 ssu_a ∷ []) ∷ (Command (Manual 1) ∷ Heard 1 prc ∷ []) ∷ (Heard 0 prc ∷ []) ∷ [] ∷ []))
    ≡ answer None sec mode.Auto Holdover
    ∷ answer (Some 0) prc_level mode.Auto Locked
    ∷ answer (Some 1) prc_level mode.Manual Locked
    ∷ answer (Some 0) prc_level mode.Auto Locked
    ∷ answer None sec mode.Auto FreeRun
    ∷ []
unfolding failed_at switches_at selection_at moment_after clock_level_at mode_at state_at
first_lock_and_loss = refl

-- do-not-use goes back on the input that is taken, and the level on the other
what_goes_back :
    map (sent_back_at (starts_with times (1 ∷ 2 ∷ []) prc ssu_a) (told (starts_with times (1 ∷ 2 ∷ []) prc ssu_a) ([] ∷ []))) (0 ∷ 1 ∷ [])
    ≡ do_not_use_of I ∷ prc_level ∷ []
unfolding failed_at switches_at selection_at moment_after clock_level_at sent_back_at
what_goes_back = refl

-- do-not-use goes back on each input of the bundle of the one that is taken, and on no other
abbrev with_a_bundle : Settings
with_a_bundle = record {
  own = sec;
  timers = times;
  floor = None;
  priorities = 1 ∷ 2 ∷ 3 ∷ [];
  first_levels = prc ∷ prc ∷ ssu_a ∷ [];
  bundles = 4 ∷ 4 ∷ 5 ∷ [];
}

bundle_goes_back :
    map (sent_back_at with_a_bundle (told with_a_bundle ([] ∷ []))) (0 ∷ 1 ∷ 2 ∷ []) ≡ do_not_use_of I ∷ do_not_use_of I ∷ prc_level ∷ []
unfolding failed_at switches_at selection_at moment_after clock_level_at sent_back_at
bundle_goes_back = refl

-- of the signals told in one millisecond the last one counts, and a clear counts in any order
last_signal_counts :
    (moment_after (starts_with times (1 ∷ 2 ∷ []) prc ssu_a) [] (ClearWtr 0 ∷ Tells 0 false ∷ Tells 0 true ∷ Tells 1 true ∷ Tells 1 false ∷ [])).inputs
    ≡ record { signal = cleared; level = prc } ∷ record { signal = down; level = ssu_a } ∷ []
unfolding moment_after
last_signal_counts = refl

-- the name of the level that both codes name
abbrev name_by_codes : NetOption → ℕ → Option ℕ → Option (List ℕ)
name_by_codes option code enhanced = option_map name_of (level_of_codes option code enhanced)

-- an enhanced code names a level beside its own code alone, and one that no level has changes nothing
enhanced_names :
    map (name_by_codes I 2) (Some 0x20 ∷ Some 0x30 ∷ Some 0x22 ∷ Some 0xff ∷ None ∷ [])
    ≡ Some (codes "QL-PRTC") ∷ Some (codes "QL-PRC") ∷ Some (codes "QL-PRC") ∷ Some (codes "QL-PRC") ∷ Some (codes "QL-PRC") ∷ []
unfolding dec_lt
enhanced_names = refl

-- a code that no level has names none, whatever the enhanced code
no_level : map (name_by_codes I 1) (Some 0x20 ∷ None ∷ []) ≡ None ∷ None ∷ []
unfolding dec_lt
no_level = refl

-- without an enhanced code a code names what it named before there were any
names_alone :
    map (λ code. option_map name_of (level_of_code II code)) (1 ∷ 10 ∷ 2 ∷ [])
    ≡ Some (codes "QL-PRS") ∷ Some (codes "QL-ST3") ∷ None ∷ []
unfolding dec_lt
names_alone = refl
