use Rattle.std.proofs.Common.{◌+◌, ◌-◌}
use Rattle.prio_mode.specs.private.Running.{IsOnWay}
use Rattle.prio_mode.proofs.running.PriorityRun.advance.Given as goal

-- all before the next millisecond was made, and the rest of the events stand from there on
abbrev pub invariant-loop-now : goal.invariant-loop-now
invariant-loop-now l =
    IsOnWay l.plan l.events l.moments l.until l.fn.self l.self l.fn.text l.text

abbrev pub decreases-loop-now : goal.decreases-loop-now
decreases-loop-now l = l.moments.until + 1 - l.moments.next
