use Rattle.sync_topo.specs.declared.sizes.Size.TheVariants.{Standard, Large}
use Rattle.sync_top.proofs.Accepted.{planned_is_accepted}
use Rattle.sync_top.proofs.laws.planned_is_accepted_law.Goals as goal

pub returns-clause-standard : goal.returns-clause-standard
returns-clause-standard c = planned_is_accepted Standard

pub returns-clause-large : goal.returns-clause-large
returns-clause-large c = planned_is_accepted Large
