-- Beside specs/Kept.antt, under no public clause: what an element keeps of its inputs.
use Rattle.std.specs.Prelude.{◌<◌, ◌+◌, IfSome}
use Rattle.input_monitor.specs.Monitored.{Monitored}
use Rattle.input_monitor.specs.Ending.{IsEnd}
use Rattle.sync_ql.specs.declared.limits.TheConstants.{GREATEST_WTR}

-- a monitor's due time is that at which its condition ends, at most the longest time after its last
-- step
pub record HasEnd (m : Monitored) : Type 0 where
  pub ends : IsEnd m.next m.condition m.due
  pub soon : IfSome m.due (λ due. due < m.next + GREATEST_WTR)
