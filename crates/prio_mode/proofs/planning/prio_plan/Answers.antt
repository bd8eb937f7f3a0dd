use Rattle.std.proofs.Common.{map}
use Rattle.prio_mode.proofs.ForcedLaws.{first_is_forced_loop}
use Rattle.prio_mode.proofs.planning.prio_plan.Goals as goal

pub returns-in-Cycle-clause-forced : goal.returns-in-Cycle-clause-forced
returns-in-Cycle-clause-forced c =
    first_is_forced_loop c.args.plan.now (map (λ line. line.0) c.in-Cycle.lines) (rw c.in-Cycle.is at c.in_ok-ranks.ensures.first)
