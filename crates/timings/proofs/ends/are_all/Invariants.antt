use Rattle.std.proofs.Common.{◌≡◌, ◌<◌, ℕ, true}
use Rattle.closed_walks.specs.Following.{is_met}
use Rattle.timings.proofs.ends.are_all.Given as goal

-- where all still is said, those behind are set
abbrev pub invariant-loop-one : goal.invariant-loop-one
invariant-loop-one l = l.all ≡ true → (k : ℕ) → k < l.one-index → is_met l.set k ≡ true
