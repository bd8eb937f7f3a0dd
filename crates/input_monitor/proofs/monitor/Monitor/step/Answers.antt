use Rattle.std.proofs.Common.{◌<◌, ◌≤◌, length, arith}
use Rattle.sync_ql.specs.Condition.{Timers}
use Rattle.input_monitor.proofs.Steps.{StandsFor-step}
use Rattle.input_monitor.proofs.monitor.Monitor.step.Goals as goal

pub returns-clause-stands : goal.returns-clause-stands
returns-clause-stands c past stands =
    let timers : Timers = record { holdoff = c.self.inside.holdoff; wtr = c.self.inside.wtr } in
    let some : 0 < c.self.inside.holdoff = omega arith in
    let later : length past ≤ c.args.now = omega (arith, stands.next) in
    let condition = rw (← c.self.view_is) at (c.next_condition-self-inside.ensures.condition past stands) in
    StandsFor-step timers some c.args.now c.next_condition-self-inside.result (record { up = c.args.up; clear = c.args.clear_wtr }) past later condition
