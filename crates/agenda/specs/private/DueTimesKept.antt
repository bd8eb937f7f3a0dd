-- Beside specs/DueTimesKept.antt, under no public clause: what is true of the times that are kept.
use Rattle.std.specs.Prelude.{◌≡◌, ◌≤◌, length, min}
use Rattle.agenda.specs.declared.limits.TheConstants.{MOST_PLACES}
use Rattle.agenda.specs.declared.due_times.TheConstants.{NEVER}
use Rattle.agenda.specs.declared.due_times.DueTimes.TheInside.{Inside}
use Rattle.agenda.specs.private.Tournament.{IsTournament}
use Rattle.agenda.specs.DueTimes.{due_count}
use Rattle.agenda.specs.private.EarlierDue.{number_at}
use Rattle.agenda.specs.DueTimesKept.{times_in}

-- they are few enough, stand in a tournament whose winner is the first, and those that are due are
-- counted
pub record IsKept (d : Inside) : Type 0 where
  pub few : length d.flags.items ≤ MOST_PLACES
  pub first : IsTournament min NEVER (length d.flags.items) (number_at (times_in d)) d.rounds.items 0
  pub count : d.due ≡ due_count (times_in d)
