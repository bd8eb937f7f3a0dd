use Rattle.std.proofs.Common.{subst}
use Rattle.reach_rules.specs.declared.failure.Failure.TheVariants as fails
use Rattle.reach_rules.specs.Protection.{IsClosed}
use Rattle.reach_rules.proofs.ProtectionLaws.{closed-served}
use Rattle.protection.proofs.serving.serves_all.Goals as goal

pub returns : goal.returns
returns c serves =
    closed-served c.args.plan.now fails.Nothing (subst (IsClosed c.args.plan.now) c.in_ok-nothing.ensures (c.is_closed.ensures serves))
