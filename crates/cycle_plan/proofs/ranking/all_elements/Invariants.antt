use Rattle.std.proofs.Common.{◌≡◌, ℕ, ◌<◌, length, slice_index_or}
use Rattle.cycle_plan.proofs.ranking.all_elements.Given as goal

abbrev pub invariant-loop-element : goal.invariant-loop-element
invariant-loop-element l =
    (length l.all.items ≡ l.element) × ((k d : ℕ) → k < l.element → slice_index_or l.all.items k d ≡ k)
