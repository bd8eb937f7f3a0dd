-- Beside specs/Monitored.antt, under no public clause: what contracts see of a monitor.
use Rattle.std.specs.Prelude.{◌≤◌, ◌+◌}
use Rattle.input_monitor.specs.private.Running.{IsRunning, IsAtMost}
use Rattle.sync_ql.specs.declared.limits.TheConstants.{LEAST_HOLDOFF, GREATEST_HOLDOFF, GREATEST_WTR, LAST_MILLISECOND}
use Rattle.input_monitor.specs.declared.monitor.Monitor.TheInside.{Inside}

-- what is true of the fields
pub record IsKept (m : Inside) : Type 0 where
  pub holdoff_low : LEAST_HOLDOFF ≤ m.holdoff
  pub holdoff_high : m.holdoff ≤ GREATEST_HOLDOFF
  pub wtr_high : m.wtr ≤ GREATEST_WTR
  pub in_range : m.next ≤ LAST_MILLISECOND + 1
  pub running : IsRunning m.condition
  pub at_most : IsAtMost GREATEST_WTR m.condition
