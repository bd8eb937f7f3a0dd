-- What is counted of the chains into elements while their lines are gone through: what only private clauses cite.
use Rattle.reach_rules.specs.declared.chain.Chain.{Chain}
use Rattle.cycle_plan.specs.declared.reach.Reach.{Reach}

-- the row that these make
abbrev pub row_of : Reach → Chain
row_of reach = record { links = reach.links.most; since = reach.since.most; clocks = reach.clocks.most }
