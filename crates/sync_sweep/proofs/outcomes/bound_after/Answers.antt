use Rattle.std.proofs.Common.{subst}
use Rattle.sync_sweep.specs.Outcomes.{IsBoundAfter}
use Rattle.sync_sweep.proofs.ShiftLemmas.{earlier-bound, none-earlier}
use Rattle.sync_sweep.proofs.outcomes.bound_after.Goals as goal

pub returns-in-Some : goal.returns-in-Some
returns-in-Some c = λ plan is.
    earlier-bound plan c.args.last c.args.until c.in-Some.bound c.requires.earlier (subst (IsBoundAfter plan c.args.until) c.in-Some.is is)

pub returns-in-None : goal.returns-in-None
returns-in-None c = λ plan is. none-earlier plan c.args.last c.args.until c.requires.earlier (subst (IsBoundAfter plan c.args.until) c.in-None.is is)
