use Rattle.event_sim.proofs.NotingLaws.{seen-all}
use Rattle.event_sim.proofs.noting.find_changed.Goals as goal

pub returns-clause-changed : goal.returns-clause-changed
returns-clause-changed c = seen-all _ _ _ _ _ c.in_ok-look_at_evaluated.ensures c.requires.after_step.count c.sort_unstable.ensures.permutation c.sort_unstable.ensures.sorted
