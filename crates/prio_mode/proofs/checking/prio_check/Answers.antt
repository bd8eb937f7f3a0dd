use Rattle.std.proofs.Common.{subst}
use Rattle.rank_cert.specs.Ranks.{rank_of}
use Rattle.prio_mode.specs.PriorityHops.{Judges}
use Rattle.prio_mode.proofs.LoopLaws.{never_loops}
use Rattle.prio_mode.proofs.checking.prio_check.Goals as goal

pub returns-clause-never_loops : goal.returns-clause-never_loops
returns-clause-never_loops c = λ rising.
    never_loops c.args.plan.now (rank_of c.args.cert.now) (subst (Judges c.args.plan.now c.args.cert.now) rising c.check_with.ensures.verdict)
