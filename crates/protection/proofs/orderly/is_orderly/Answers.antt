use Rattle.std.proofs.Common.{subst}
use Rattle.protection.specs.Orderly.{ComesByFewest}
use Rattle.nominate.proofs.HopLaws.{one-list}
use Rattle.protection.proofs.FoundLaws.{two-from}
use Rattle.protection.proofs.orderly.is_orderly.Goals as goal

pub returns : goal.returns
returns c = λ _. record {
  well_formed = c.elements-elements.ensures.well_formed;
  two = two-from c.args.plan.now c.args.firsts.now c.args.seconds.now (c.are_of_two.ensures c.if-not-are_of_two.false);
  apart = c.stand_apart.ensures c.if-not-stand_apart.false;
  fewest = λ counts are. subst (ComesByFewest c.args.plan.now) (one-list c.args.plan.now c.args.hops.now counts c.requires are) (c.come_by_fewest.ensures c.if-not-come_by_fewest.false);
  rising = c.in_ok-rising.ensures c.if-not-rising.false;
  bound = c.in_ok-agreed.ensures.bound c.if-not-agreed.false;
  failures = c.in_ok-agreed.ensures.failures c.if-not-agreed.false;
}
