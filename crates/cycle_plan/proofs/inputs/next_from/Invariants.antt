use Rattle.std.proofs.Common.{◌≡◌, ℕ, ◌<◌, ◌≤◌, false}
use Rattle.cycle_plan.specs.private.Inputs.{is_next}
use Rattle.cycle_plan.proofs.inputs.next_from.Given as goal

abbrev pub invariant-loop-place : goal.invariant-loop-place
invariant-loop-place l = (place : ℕ) → l.from ≤ place → place < l.place → is_next l.returns l.plan l.cert l.inputs l.apart place ≡ false
