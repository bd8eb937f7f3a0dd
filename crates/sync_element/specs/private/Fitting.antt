-- Private: what the tests may tell an element, which only their clauses cite.
use Rattle.std.specs.Prelude.{◌<◌, ℕ}
use Rattle.sync_ql.specs.declared.levels.NetOption.{NetOption}
use Rattle.sync_ql.specs.declared.rules.InputEvent.{InputEvent}
use Rattle.sync_ql.specs.declared.rules.InputEvent.TheVariants.{Signal, Heard, ClearWtr, Command}
use Rattle.sync_ql.specs.Switches.{NamesInput}
use Rattle.sync_ql.specs.Told.{IsOfOption}

-- an event names one of n inputs or none, and a level of an option or none
abbrev pub FitsOption : NetOption → ℕ → InputEvent → Type 0
FitsOption option n (Signal i up) = i < n
FitsOption option n (Heard i level) = (i < n) × IsOfOption option level
FitsOption option n (ClearWtr i) = i < n
FitsOption option n (Command command) = NamesInput n command
