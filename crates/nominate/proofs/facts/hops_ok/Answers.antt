use Rattle.nominate.proofs.MarkLemmas.{facts-tell}
use Rattle.nominate.proofs.facts.hops_ok.Goals as goal

pub returns-clause-exact : goal.returns-clause-exact
returns-clause-exact c = facts-tell c.args.plan.now c.args.hops.now c.facts_ok.result c.elements-elements.ensures.well_formed c.facts_ok.ensures
