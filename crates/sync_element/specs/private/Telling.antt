-- Private to this crate: what events make of inputs and switches, which only clauses of private functions cite.
use Rattle.std.specs.Prelude.{◌≡◌, ◌<◌, ℕ, ◌||◌, List, [], ◌∷◌, length, unwrap_or}
use Rattle.std.specs.List.{list_any}
use Rattle.sync_ql.specs.declared.rules.InputEvent.{InputEvent}
use Rattle.sync_ql.specs.declared.rules.InputEvent.TheVariants.{Signal, Heard, ClearWtr, Command}
use Rattle.sync_ql.specs.Switches.{Switches, after_commands, NamesInput}
use Rattle.sync_ql.specs.Told.{last_said, says_up, says_level, clears, commands_in}
use Rattle.sync_element.specs.declared.watched.Watched.{Watched}
use Rattle.sync_element.specs.Kept.{watched_in}

-- an event names one of n inputs or none
abbrev pub Fits : ℕ → InputEvent → Type 0
Fits n (Signal i up) = i < n
Fits n (Heard i level) = i < n
Fits n (ClearWtr i) = i < n
Fits n (Command command) = NamesInput n command

-- the inputs and switches that are told
pub record Tellable : Type 0 where
  pub watched : List Watched
  pub switches : Switches

-- what is left of some events makes of them now what all the events make of those before
pub record IsToldSoFar (all left : List InputEvent) (before now : Tellable) : Type 0 where
  pub count : length now.watched ≡ length before.watched
  pub locked_count : length now.switches.locked ≡ length before.switches.locked
  pub same_monitor : (i : ℕ) → (watched_in now.watched i).monitor ≡ (watched_in before.watched i).monitor
  pub is_up : (i : ℕ) → unwrap_or (last_said (says_up i) left) (watched_in now.watched i).up ≡ unwrap_or (last_said (says_up i) all) (watched_in before.watched i).up
  pub is_cleared : (i : ℕ) → (list_any (clears i) left || (watched_in now.watched i).cleared) ≡ (list_any (clears i) all || (watched_in before.watched i).cleared)
  pub has_level : (i : ℕ) → unwrap_or (last_said (says_level i) left) (watched_in now.watched i).level ≡ unwrap_or (last_said (says_level i) all) (watched_in before.watched i).level
  pub switches : after_commands now.switches (commands_in left) ≡ after_commands before.switches (commands_in all)

-- what one event tells is taken in
abbrev pub IsTold : InputEvent → Tellable → Tellable → Type 0
IsTold event before now = IsToldSoFar (event ∷ []) [] before now
