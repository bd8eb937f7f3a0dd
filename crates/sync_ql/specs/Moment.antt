-- One element over time: its switches, and the input that it takes.
-- A past is the list of the element's milliseconds from 0 on, the newest first; before 0 it is
-- empty. After G.781, external commands and selection.
use Rattle.std.specs.Prelude.{ℕ, Bool, true, false, not, ◌&&◌, List, [], ◌∷◌, length, map, slice_index, slice_index_or, Option, None}
use Rattle.std.specs.List.{range_with_len}
use Rattle.sync_ql.specs.declared.levels.Level.{Level}
use Rattle.sync_ql.specs.declared.rules.Cmd.{Cmd}
use Rattle.sync_ql.specs.declared.rules.Candidate.{Candidate}
use Rattle.sync_ql.specs.Condition.{Signal, Timers, failed_at}
use Rattle.sync_ql.specs.Switches.{Switches, unswitched, is_locked, after_commands}
use Rattle.sync_ql.specs.Selection.{is_better, standing_manual, choice}

-- one millisecond of an input: its signal, and the level that it has
pub record InputMoment : Type 0 where
  pub signal : Signal
  pub level : Option Level

-- one millisecond of an element: each of its inputs, and the commands given in it, in their order,
-- each of which names one of its inputs or none
pub record Moment : Type 0 where
  pub inputs : List InputMoment
  pub commands : List Cmd

-- what an element is set to: its own clock's level, the times of its inputs, its floor, than which
-- no level is taken that is worse, if it has one, and for each input its priority number, the level
-- that it has before any is told, and the number of its bundle, which inputs of parallel links share
pub record Settings : Type 0 where
  pub own : Level
  pub timers : Timers
  pub floor : Option Level
  pub priorities : List ℕ
  pub first_levels : List (Option Level)
  pub bundles : List ℕ

-- a millisecond of the input at a place; beyond the list it is up and has no level
abbrev pub input_of : ℕ → Moment → InputMoment
input_of i now =
    slice_index_or now.inputs i (record { signal = record { up = true; clear = false }; level = None })

-- the past of the input at a place
abbrev pub signals_of : ℕ → List Moment → List Signal
signals_of i past = map (λ now. (input_of i now).signal) past

-- the level of the input at a place
abbrev pub level_now : ℕ → List Moment → Option Level
level_now i [] = None
level_now i (now ∷ before) = (input_of i now).level

-- an input is usable where it isn't locked out, isn't failed, and the floor isn't better than its level
abbrev pub usable_at : Settings → Switches → List Moment → ℕ → Bool
usable_at settings s past i =
    not (is_locked s i)
    && not (failed_at settings.timers (signals_of i past))
    && not (is_better settings.floor (level_now i past))

-- what the choice looks at in each input
abbrev pub candidates_at : Settings → Switches → List Moment → List Candidate
candidates_at settings s past =
    map (λ i. record { level = level_now i past; priority = slice_index settings.priorities i; usable = usable_at settings s past i })
    (range_with_len 0 (length settings.priorities))

-- at the end of a millisecond a manual switch ends unless it stands
abbrev pub at_end : List Candidate → Switches → Switches
at_end inputs s = record { locked = s.locked; forced = s.forced; manual = standing_manual inputs s.manual }

-- the switches are what the commands make of them, and then a manual switch stands or ends
unfoldable pub switches_at : Settings → List Moment → Switches
switches_at settings [] = unswitched (length settings.priorities)
switches_at settings (now ∷ before) =
    let s = after_commands (switches_at settings before) now.commands in
    at_end (candidates_at settings s (now ∷ before)) s

-- the input that is taken; before 0 there is none
unfoldable pub selection_at : Settings → List Moment → Option ℕ
selection_at settings [] = None
selection_at settings (now ∷ before) =
    let s = switches_at settings (now ∷ before) in
    choice (candidates_at settings s (now ∷ before)) s.forced s.manual (selection_at settings before)
