-- Beside specs/EarlierDue.antt, under no public clause: how the times of objects are kept, and by which numbers they
-- stand in a tournament.
use Rattle.std.specs.Prelude.{◌≡◌, ◌≤◌, ◌<◌, ℕ, List, length, Option, Some, unwrap_or}
use Rattle.agenda.specs.declared.due_times.Due.{Due}
use Rattle.agenda.specs.declared.due_times.TheConstants.{NEVER}
use Rattle.agenda.specs.DueTimes.{due_in}

-- the time of the object at a place, or the last number, by which one that isn't due stands too
abbrev pub number_at : List (Option ℕ) → ℕ → ℕ
number_at times i = unwrap_or (due_in times i) NEVER

-- an object of a list, which is due at that number at the latest
pub record IsListed (times : List (Option ℕ)) (due : Due) : Type 0 where
  pub within : due.place < length times
  pub ends : due_in times due.place ≡ Some due.at
  pub in_range : due.at ≤ NEVER
