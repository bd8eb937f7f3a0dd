use Rattle.std.proofs.Common.{map}
use Rattle.protection.proofs.TreeLemmas.{found-tree, serves-tree, agrees-tree}
use Rattle.protection.proofs.fewest.tree_of.Goals as goal

pub returns-clause-found : goal.returns-clause-found
returns-clause-found c =
    let bounds = c.in-Bound.field-0 in
    found-tree c.args.plan.now c.in_ok-tree.tree bounds.bound bounds.failures c.in_ok-tree.ensures (rw c.in-Bound.is at c.in_ok-agreement.ensures.bound)
    (rw c.in-Bound.is at c.in_ok-agreement.ensures.failures)

pub returns-clause-served : goal.returns-clause-served
returns-clause-served c = serves-tree c.args.plan.now c.in_ok-tree.tree c.in_ok-tree.ensures

pub unreachable-requires : goal.unreachable-requires
unreachable-requires c =
    agrees-tree c.args.plan.now c.in_ok-tree.tree (map (λ line. line.0) c.in-Clash.field-0) c.in_ok-tree.ensures (rw c.in-Clash.is at c.in_ok-agreement.ensures.circle)
