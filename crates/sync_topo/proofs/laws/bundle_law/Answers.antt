use Rattle.sync_topo.proofs.BundleLaws.{one-number, lowest-of-all, unnamed-alone}
use Rattle.sync_topo.proofs.laws.bundle_law.Goals as goal

pub returns-clause-one : goal.returns-clause-one
returns-clause-one c = λ plan. one-number plan.links

pub returns-clause-lowest : goal.returns-clause-lowest
returns-clause-lowest c = λ plan. lowest-of-all plan.links

pub returns-clause-unnamed : goal.returns-clause-unnamed
returns-clause-unnamed c = unnamed-alone
