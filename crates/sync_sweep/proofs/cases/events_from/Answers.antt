use Rattle.sync_sweep.proofs.CaseLemmas.{later-same, later-within}
use Rattle.sync_sweep.proofs.cases.events_from.Goals as goal

pub returns-clause-same : goal.returns-clause-same
returns-clause-same c = λ t low.
    rw c.split_at.ensures.back
    (later-same c.args.events.now c.count_before.result c.args.from c.count_before.ensures.before c.count_before.ensures.within t low)

pub returns-clause-within : goal.returns-clause-within
returns-clause-within c = λ plan until within.
    rw c.split_at.ensures.back
    (later-within plan c.args.events.now c.count_before.result c.args.from until within c.count_before.ensures.later)
