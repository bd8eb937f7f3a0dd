use Rattle.std.proofs.Common.{◌≡◌, ◌∷◌, ◌++◌, length, reverse}
use Rattle.cycle_plan.proofs.first_cycle.in_hop_order.Given as goal

abbrev pub invariant-loop-line : goal.invariant-loop-line
invariant-loop-line l = l.lines ++ reverse l.behind.items ≡ l.fn.low ∷ reverse l.fn.behind.items

abbrev pub decreases-loop-line : goal.decreases-loop-line
decreases-loop-line l = length l.behind.items
