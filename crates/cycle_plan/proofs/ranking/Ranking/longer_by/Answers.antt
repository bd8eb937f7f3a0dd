use Rattle.cycle_plan.proofs.LateLemmas.{IsLong-passed}
use Rattle.cycle_plan.proofs.ranking.Ranking.longer_by.Goals as goal

pub returns-clause-longer : goal.returns-clause-longer
returns-clause-longer c =
    rw (c.greater.ensures)
    (IsLong-passed c.args.plan.now c.args.self.now.order.items c.args.place c.args.longest c.pass-time.result c.requires.within c.pass-time.ensures.few c.pass-time.ensures.time
    c.requires.longest)
