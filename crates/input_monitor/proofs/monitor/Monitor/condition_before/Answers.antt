use Rattle.std.proofs.Common.{◌≡◌, ◌≤◌, ◌<◌, ◌-◌, IfSome, arith, subst}
use Rattle.sync_ql.specs.Condition.{Timers, condition_at, continued}
use Rattle.input_monitor.specs.Ending.{later_by}
use Rattle.input_monitor.specs.Monitored.{end_of}
use Rattle.input_monitor.proofs.Steps.{condition_later}
use Rattle.input_monitor.proofs.monitor.Monitor.condition_before.Goals as goal

pub returns-in-HoldOff-clause-condition : goal.returns-in-HoldOff-clause-condition
returns-in-HoldOff-clause-condition c =
    let m = c.self.inside in
    let timers : Timers = record { holdoff = m.holdoff; wtr = m.wtr } in
    let some : 0 < m.holdoff = omega (arith, c.self.invariant.holdoff_low) in
    let later : m.next ≤ c.args.next = rw (← c.self.view_is) at c.requires.later in
    let in_time : IfSome (end_of m.next m.condition) (λ due. c.args.next ≤ due) = rw (← c.self.view_is) at c.requires.in_time in
    rw (← c.self.view_is)
    (λ past stands. subst (λ d. later_by (c.args.next - m.next) d ≡ condition_at timers (continued c.args.next past)) c.in-HoldOff.is
    (condition_later timers m.condition m.next c.args.next past some stands.next stands.condition later in_time))

pub returns-in-Restoring-clause-condition : goal.returns-in-Restoring-clause-condition
returns-in-Restoring-clause-condition c =
    let m = c.self.inside in
    let timers : Timers = record { holdoff = m.holdoff; wtr = m.wtr } in
    let some : 0 < m.holdoff = omega (arith, c.self.invariant.holdoff_low) in
    let later : m.next ≤ c.args.next = rw (← c.self.view_is) at c.requires.later in
    let in_time : IfSome (end_of m.next m.condition) (λ due. c.args.next ≤ due) = rw (← c.self.view_is) at c.requires.in_time in
    rw (← c.self.view_is)
    (λ past stands. subst (λ d. later_by (c.args.next - m.next) d ≡ condition_at timers (continued c.args.next past)) c.in-Restoring.is
    (condition_later timers m.condition m.next c.args.next past some stands.next stands.condition later in_time))

pub returns-in-Good-clause-condition : goal.returns-in-Good-clause-condition
returns-in-Good-clause-condition c =
    let m = c.self.inside in
    let timers : Timers = record { holdoff = m.holdoff; wtr = m.wtr } in
    let some : 0 < m.holdoff = omega (arith, c.self.invariant.holdoff_low) in
    let later : m.next ≤ c.args.next = rw (← c.self.view_is) at c.requires.later in
    let in_time : IfSome (end_of m.next m.condition) (λ due. c.args.next ≤ due) = rw (← c.self.view_is) at c.requires.in_time in
    rw (← c.self.view_is)
    (λ past stands. subst (λ d. later_by (c.args.next - m.next) d ≡ condition_at timers (continued c.args.next past)) c.in-Good.is
    (condition_later timers m.condition m.next c.args.next past some stands.next stands.condition later in_time))

pub returns-in-Failed-clause-condition : goal.returns-in-Failed-clause-condition
returns-in-Failed-clause-condition c =
    let m = c.self.inside in
    let timers : Timers = record { holdoff = m.holdoff; wtr = m.wtr } in
    let some : 0 < m.holdoff = omega (arith, c.self.invariant.holdoff_low) in
    let later : m.next ≤ c.args.next = rw (← c.self.view_is) at c.requires.later in
    let in_time : IfSome (end_of m.next m.condition) (λ due. c.args.next ≤ due) = rw (← c.self.view_is) at c.requires.in_time in
    rw (← c.self.view_is)
    (λ past stands. subst (λ d. later_by (c.args.next - m.next) d ≡ condition_at timers (continued c.args.next past)) c.in-Failed.is
    (condition_later timers m.condition m.next c.args.next past some stands.next stands.condition later in_time))
