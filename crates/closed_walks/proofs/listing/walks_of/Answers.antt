use Rattle.closed_walks.proofs.WithinLaws.{walks-each}
use Rattle.closed_walks.proofs.listing.walks_of.Goals as goal

pub returns-clause-of_plan : goal.returns-clause-of_plan
returns-clause-of_plan c = walks-each c.args.plan.now c.args.taken.now c.requires.taken c.loop-number.walks c.loop-number.invariant.are.each
