use Rattle.std.proofs.Common.{◌≡◌, ◌<◌, ℕ, ◌+◌, ◌-◌}
use Rattle.std.specs.Prelude.{slice_index_or, min}
use Rattle.agenda.specs.declared.due_times.TheConstants.{NEVER}
use Rattle.agenda.specs.private.Tournament.{IsTournament}
use Rattle.agenda.proofs.due_times.place_of.Given as goal

-- at this round the first number stands
abbrev pub invariant-loop-round : goal.invariant-loop-round
invariant-loop-round l = record {
  some : 0 < l.round;
  within : l.round < l.count + l.count;
  same : (players : ℕ → ℕ) → IsTournament min NEVER l.count players l.rounds 0 → slice_index_or l.rounds l.round NEVER ≡ l.first;
}

abbrev pub decreases-loop-round : goal.decreases-loop-round
decreases-loop-round l = l.count + l.count - l.round
