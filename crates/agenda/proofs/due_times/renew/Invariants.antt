use Rattle.std.proofs.Common.{◌≡◌, ◌<◌, ℕ, ◌+◌, length}
use Rattle.std.specs.Prelude.{min}
use Rattle.agenda.specs.declared.due_times.TheConstants.{NEVER}
use Rattle.agenda.specs.private.Tournament.{IsTournament, with_player}
use Rattle.agenda.proofs.due_times.renew.Given as goal

-- the winner of this round alone is stale
abbrev pub invariant-loop-round : goal.invariant-loop-round
invariant-loop-round l = record {
  room : length l.rounds ≡ l.count + l.count;
  within : l.round < l.count;
  renewed : (players : ℕ → ℕ) → IsTournament min NEVER l.count players l.fn.rounds 0 → IsTournament min NEVER l.count (with_player players l.place l.fn.player) l.rounds l.round;
}

abbrev pub decreases-loop-round : goal.decreases-loop-round
decreases-loop-round l = l.round
