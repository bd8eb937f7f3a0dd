use Rattle.std.proofs.Common.{arith}
use Rattle.closed_walks.specs.Taking.{taken_in_list}
use Rattle.closed_walks.proofs.KnownLaws.{all-found}
use Rattle.closed_walks.proofs.endings.find_endings.Goals as goal

pub returns-clause-found : goal.returns-clause-found
returns-clause-found c =
    all-found c.args.plan.now (taken_in_list c.args.taken.now) c.loop-element.known.items c.loop-element.invariant.are
    (λ k within. c.loop-element.invariant.behind k (omega (arith, within, c.loop-element-test.false, c.elements-element-end.ensures.count)))
