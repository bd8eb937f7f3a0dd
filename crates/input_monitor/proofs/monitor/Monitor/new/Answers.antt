use Rattle.std.proofs.Common.{◌<◌, [], refl, arith}
use Rattle.sync_ql.specs.declared.rules.Cond.TheVariants.{Good}
use Rattle.sync_ql.specs.Condition.{Timers}
use Rattle.input_monitor.proofs.Conditions.{condition_at-empty}
use Rattle.input_monitor.proofs.Steps.{StandsFor-seen}
use Rattle.input_monitor.proofs.monitor.Monitor.new.Goals as goal

pub returns-clause-stands : goal.returns-clause-stands
returns-clause-stands c =
    let timers : Timers = record { holdoff = c.args.holdoff; wtr = c.args.wtr } in
    let some : 0 < c.args.holdoff = omega arith in
    StandsFor-seen timers some 0 Good [] refl (condition_at-empty timers)
