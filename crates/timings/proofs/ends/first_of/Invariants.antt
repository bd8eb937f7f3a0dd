use Rattle.std.proofs.Common.{◌≡◌, ◌<◌, ℕ, false}
use Rattle.closed_walks.specs.Following.{is_met}
use Rattle.timings.proofs.ends.first_of.Given as goal

-- none behind is set
abbrev pub invariant-loop-number : goal.invariant-loop-number
invariant-loop-number l = (k : ℕ) → k < l.number → is_met l.set k ≡ false
