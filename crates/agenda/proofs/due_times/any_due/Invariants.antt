use Rattle.std.proofs.Common.{◌≡◌, ◌<◌, ℕ, None}
use Rattle.agenda.specs.EarlierDue.{time_at}
use Rattle.agenda.proofs.due_times.any_due.Given as goal

-- none behind is due
abbrev pub invariant-loop-place : goal.invariant-loop-place
invariant-loop-place l = (i : ℕ) → i < l.place → time_at l.flags l.rounds i ≡ None
