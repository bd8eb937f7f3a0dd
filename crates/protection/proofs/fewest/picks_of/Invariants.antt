use Rattle.protection.specs.private.Tree.{ArePicks}
use Rattle.protection.proofs.fewest.picks_of.Given as goal

abbrev pub invariant-loop-number : goal.invariant-loop-number
invariant-loop-number l = ArePicks l.plan l.hops l.number l.picks.items
