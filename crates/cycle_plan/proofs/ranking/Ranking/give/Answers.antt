use Rattle.std.proofs.Common.{refl}
use Rattle.cycle_plan.proofs.PeelingLemmas.{IsMore-given}
use Rattle.cycle_plan.proofs.ranking.Ranking.give.Goals as goal

pub returns-clause-more : goal.returns-clause-more
returns-clause-more c =
    IsMore-given c.args.returns c.args.plan.now c.args.self.now (record { ranks = c.set.new.self; watches = c.args.self.now.watches; waiting = c.push.new.self; order = c.push-2.new.self })
    c.args.line.0 c.args.rank c.requires.peeling c.requires.nominated c.requires.within c.requires.left c.requires.next
    (record { set = c.set.ensures.set; counted = c.set.ensures.counted; here = c.set.ensures.here; others = c.set.ensures.others })
    (rw (← c.to-receiver.ensures.receiver) c.to-receiver.ensures.within) (rw (← c.to-receiver.ensures.receiver) c.in-Ok.ensures.items) refl c.in-Ok-push.ensures.items
