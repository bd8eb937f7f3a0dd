-- Private: a running time, which only the invariant and a clause of a private function cite.
use Rattle.std.specs.Prelude.{◌<◌, ◌≤◌, ℕ, ⊤}
use Rattle.sync_ql.specs.declared.rules.Cond.{Cond}
use Rattle.sync_ql.specs.declared.rules.Cond.TheVariants.{Good, HoldOff, Failed, Restoring}

-- a time that runs has not ended
abbrev pub IsRunning : Cond → Type 0
IsRunning Good = ⊤
IsRunning (HoldOff left) = 0 < left
IsRunning Failed = ⊤
IsRunning (Restoring left) = 0 < left

-- no more than so many milliseconds are left of a time that runs
abbrev pub IsAtMost : ℕ → Cond → Type 0
IsAtMost longest Good = ⊤
IsAtMost longest (HoldOff left) = left ≤ longest
IsAtMost longest Failed = ⊤
IsAtMost longest (Restoring left) = left ≤ longest
