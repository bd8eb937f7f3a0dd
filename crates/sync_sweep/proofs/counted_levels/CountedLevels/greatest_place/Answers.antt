use Rattle.std.proofs.Common.{◌<◌, ◌-◌, ℕ, arith}
use Rattle.sync_sweep.specs.private.Counts.{with_place}
use Rattle.sync_sweep.proofs.Tallies.{any-level, has-place}
use Rattle.sync_sweep.proofs.counted_levels.CountedLevels.greatest_place.Goals as goal

pub returns-then-self-place-gt0-clause-has : goal.returns-then-self-place-gt0-clause-has
returns-then-self-place-gt0-clause-has c =
    let levels = c.self.inside.levels.items in
    let place : ℕ = 15 - c.loop-below.below in
    let some : 0 < with_place levels place = omega (arith, c.self.invariant.tallied.each place (omega arith), c.if-self-place-gt0.true) in
    rw (← c.self.view_is) (has-place levels place some)

pub unreachable-requires : goal.unreachable-requires
unreachable-requires c = any-level c.args.self.now c.requires.some (λ level. omega (arith, c.loop-below.invariant 0 level c.requires.some, c.loop-below-test.false))
