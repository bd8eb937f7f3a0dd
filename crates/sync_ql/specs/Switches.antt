-- Lockout, forced switch and manual switch of one element, and what commands make of them.
-- After G.781, external commands. Inputs are named by their place among the element's inputs.
use Rattle.std.specs.Prelude.{◌<◌, ℕ, Bool, true, false, ◌||◌, nat_eq, if◌then◌else◌, List, [], ◌∷◌, replicate, slice_index_or, slice_set, Option, None, Some, is_some, ⊤}
use Rattle.sync_ql.specs.declared.rules.Cmd.{Cmd}
use Rattle.sync_ql.specs.declared.rules.Cmd.TheVariants.{Lockout, Unlock, Forced, Manual, Clear}

-- which inputs are locked out, the input of a forced switch, and that of a manual switch
pub record Switches : Type 0 where
  pub locked : List Bool
  pub forced : Option ℕ
  pub manual : Option ℕ

-- before any command: nothing is locked out, and there is no switch
abbrev pub unswitched : ℕ → Switches
unswitched inputs = record { locked = replicate inputs false; forced = None; manual = None }

-- whether an input is locked out
abbrev pub is_locked : Switches → ℕ → Bool
is_locked s i = slice_index_or s.locked i false

-- an input other than the one that a command names
abbrev pub other_than : ℕ → Option ℕ → Option ℕ
other_than i None = None
other_than i (Some k) = if nat_eq k i then None else Some k

-- a switch to an input that is locked out is rejected, and a manual one while any input is forced
abbrev pub is_rejected : Switches → Cmd → Bool
is_rejected s (Lockout i) = false
is_rejected s (Unlock i) = false
is_rejected s (Forced i) = is_locked s i
is_rejected s (Manual i) = is_locked s i || is_some s.forced
is_rejected s Clear = false

-- what a command does that isn't rejected
abbrev pub carried_out : Switches → Cmd → Switches
carried_out s (Lockout i) =
    record { locked = slice_set s.locked i true; forced = other_than i s.forced; manual = s.manual }
carried_out s (Unlock i) =
    record { locked = slice_set s.locked i false; forced = s.forced; manual = s.manual }
carried_out s (Forced i) = record { locked = s.locked; forced = Some i; manual = None }
carried_out s (Manual i) = record { locked = s.locked; forced = s.forced; manual = Some i }
carried_out s Clear = record { locked = s.locked; forced = None; manual = None }

-- a command that is rejected changes nothing
abbrev pub after_command : Switches → Cmd → Switches
after_command s command = if is_rejected s command then s else carried_out s command

-- the commands of a millisecond, in their order
abbrev pub after_commands : Switches → List Cmd → Switches
after_commands s [] = s
after_commands s (command ∷ commands) = after_commands (after_command s command) commands

-- the end of a manual switch
abbrev pub without_manual : Switches → Switches
without_manual s = record { locked = s.locked; forced = s.forced; manual = None }

-- the input that a command names is one of so many
abbrev pub NamesInput : ℕ → Cmd → Type 0
NamesInput inputs (Lockout i) = i < inputs
NamesInput inputs (Unlock i) = i < inputs
NamesInput inputs (Forced i) = i < inputs
NamesInput inputs (Manual i) = i < inputs
NamesInput inputs Clear = ⊤
