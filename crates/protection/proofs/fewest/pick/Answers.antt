use Rattle.std.proofs.Common.{◌≡◌, ◌∙◌, sym, true}
use Rattle.protection.specs.private.Tree.{comes_closer}
use Rattle.protection.proofs.TreeLemmas.{ArePicks-next}
use Rattle.protection.proofs.fewest.pick.Goals as goal

pub returns : goal.returns
returns c =
    let closer : comes_closer c.args.plan.now c.args.hops.now c.args.line.0 ≡ true =
    rw (← c.from.ensures.sender, ← c.to-receiver.ensures.receiver, ← c.of.ensures.count, ← c.of-2.ensures.count) (sym c.is_one_less.ensures ∙ c.if-not-is_one_less.false) in
    record {
      after =
          ArePicks-next c.args.plan.now c.args.hops.now c.args.line.0 c.args.picks.now c.to-receiver.result c.requires.within c.to-receiver.ensures.receiver
          c.to-receiver.ensures.within closer c.requires.before;
    }
