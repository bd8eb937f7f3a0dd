use Rattle.rank_cert.specs.Ranks.{rank_of, JudgesOver}
use Rattle.std.proofs.Common.{subst}
use Rattle.sync_topo.specs.Hops.{hops}
use Rattle.rank_cert.proofs.RankLaws.{IsRising-no_cycle}
use Rattle.net_rules.proofs.FinalLaws.{loop_free}
use Rattle.rank_cert.proofs.rising.check.Goals as goal

pub returns-clause-no_cycle : goal.returns-clause-no_cycle
returns-clause-no_cycle c = λ rising.
    IsRising-no_cycle c.args.plan.now (rank_of c.args.cert.now) (subst (JudgesOver (hops c.args.plan.now) c.args.cert.now) rising c.check_with.ensures.verdict)

pub returns-clause-loop_free : goal.returns-clause-loop_free
returns-clause-loop_free c = λ rising.
    loop_free c.args.plan.now (rank_of c.args.cert.now) c.lines-lines.ensures.well_formed
    (subst (JudgesOver (hops c.args.plan.now) c.args.cert.now) rising c.check_with.ensures.verdict)
