use Rattle.std.proofs.Common.{refl, zero-add}
use Rattle.std.proofs.lemmas.List.FromFn.{map-range_with_len_more}
use Rattle.protection.specs.private.Tree.{tree_priority}
use Rattle.protection.proofs.fewest.priorities_of.Goals as goal

pub loop-number-preserved : goal.loop-number-preserved
loop-number-preserved c =
    rw (
      c.in-Ok-push.ensures.items,
      c.loop-number.invariant,
      c.priority_of.ensures,
      map-range_with_len_more (tree_priority c.args.plan.now c.args.picks.now) 0 c.loop-number.number c.loop-number.number (zero-add c.loop-number.number),
    ) refl
