use Rattle.std.proofs.Common.{◌≡◌, map}
use Rattle.std.specs.List.{range_with_len}
use Rattle.protection.specs.private.Tree.{tree_priority}
use Rattle.protection.proofs.fewest.priorities_of.Given as goal

abbrev pub invariant-loop-number : goal.invariant-loop-number
invariant-loop-number l = l.priorities.items ≡ map (tree_priority l.plan l.picks) (range_with_len 0 l.number)
