-- What is true of the times that are kept.
use Rattle.std.specs.Prelude.{ℕ, List, Option}
use Rattle.agenda.specs.declared.due_times.DueTimes.TheInside.{Inside}
use Rattle.agenda.specs.EarlierDue.{times_by}

-- the times of the objects, by place
abbrev pub times_in : Inside → List (Option ℕ)
times_in d = times_by d.flags.items d.rounds.items
