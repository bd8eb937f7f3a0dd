use Rattle.std.proofs.Common.{◌≡◌, ◌<◌, ◌⊎◌, ℕ, true, List, length, sum_by, cond}
use Rattle.closed_walks.specs.Taking.{taken_in_list}
use Rattle.sync_topo.specs.Lines.{numbers}
use Rattle.closed_walks.specs.Following.{Follows, IsPassed, is_met, AreMet}
use Rattle.closed_walks.specs.private.Following.{IsOnTrace}
use Rattle.closed_walks.proofs.following.follow.Given as goal

-- the lines so far lead here, and those passed are marked
abbrev pub invariant-loop-met : goal.invariant-loop-met
invariant-loop-met l = record {
  within : l.at < length l.plan.elements;
  follows : Follows l.plan (taken_in_list l.taken) l.from (numbers l.lines) l.at;
  met : (k : ℕ) → is_met l.met k ≡ true → (is_met l.initial.met k ≡ true) ⊎ IsPassed l.plan l.from (numbers l.lines) k;
  trace : (before : List ℕ) → AreMet l.initial.met before → IsOnTrace l.plan (taken_in_list l.taken) before l.from l.met l.lines l.at;
}

-- how many aren't marked
abbrev pub decreases-loop-met : goal.decreases-loop-met
decreases-loop-met l = sum_by (λ b. cond b 0 1) l.met
