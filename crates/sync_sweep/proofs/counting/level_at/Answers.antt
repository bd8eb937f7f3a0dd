use Rattle.std.proofs.Common.{arith, ap}
use Rattle.sync_ql.specs.declared.levels.Level.{Level}
use Rattle.sync_sweep.proofs.Tallies.{last-place}
use Rattle.sync_sweep.proofs.counting.level_at.Goals as goal

pub returns-clause-place : goal.returns-clause-place
returns-clause-place c = λ within.
    omega (arith, within, c.if-place-last.false, last-place c.args.option, ap (λ (level : Level). level.place) c.do_not_use-last.ensures.level)
