use Rattle.std.proofs.Common.{◌≡◌, length}
use Rattle.timings.proofs.finding.shortest_first.Given as goal

abbrev pub invariant-loop-element : goal.invariant-loop-element
invariant-loop-element l = length l.keys.items ≡ l.element

abbrev pub invariant-loop-key : goal.invariant-loop-key
invariant-loop-key l = length l.order.items ≡ l.key-index
