use Rattle.nominate.proofs.SearchLemmas.{bounded-search}
use Rattle.nominate.proofs.HopLaws.{facts-by_search, counts-by_facts, one-list}
use Rattle.nominate.proofs.hops.least_hops.Goals as goal

pub returns-clause-least : goal.returns-clause-least
returns-clause-least c =
    let well = c.in_ok-search.ensures.well_formed in
    counts-by_facts c.args.plan.now c.run.new.self.counts.items well (facts-by_search c.args.plan.now c.run.new.self well c.in_ok-run.ensures.searching c.in_ok-run.ensures.led)

pub returns-clause-only : goal.returns-clause-only
returns-clause-only c = λ counts are. one-list c.args.plan.now counts c.run.new.self.counts.items are (returns-clause-least c)

pub returns-clause-bounded : goal.returns-clause-bounded
returns-clause-bounded c = bounded-search c.args.plan.now c.run.new.self c.in_ok-run.ensures.searching
