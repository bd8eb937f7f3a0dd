use Rattle.std.proofs.Common.{◌<◌, length, arith, length-set}
use Rattle.sync_sweep.proofs.Tallies.{by_place-set, few-then}
use Rattle.sync_sweep.proofs.counted_levels.CountedLevels.set.Goals as goal

pub overflow_add-self : goal.overflow_add-self
overflow_add-self c =
    let within : c.args.element < length c.self.inside.levels.items = rw (← c.self.view_is) at c.requires.element in
    omega (arith, few-then c.self.inside.levels.items c.args.element c.args.level c.index-before.result.now c.self.inside.counts within c.index-before.ensures c.self.invariant.tallied, c.self.invariant.few)

pub invariant_of-self : goal.invariant_of-self
invariant_of-self c =
    let within : c.args.element < length c.self.inside.levels.items = rw (← c.self.view_is) at c.requires.element in
    record {
      few = omega (arith, c.self.invariant.few, length-set c.self.inside.levels.items c.args.element c.args.level);
      tallied = by_place-set c.self.inside.levels.items c.args.element c.args.level c.index-before.result.now c.self.inside.counts within c.index-before.ensures c.self.invariant.tallied;
    }
