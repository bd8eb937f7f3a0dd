-- What a monitor has to do with the milliseconds that were.
use Rattle.std.specs.Prelude.{◌≡◌, List, length}
use Rattle.sync_ql.specs.Condition.{Signal, failed_at, condition_at, IsDue}
use Rattle.input_monitor.specs.Monitored.{Monitored}

-- the monitor stands for a past of its input
pub record StandsFor (m : Monitored) (past : List Signal) : Type 0 where
  pub next : m.next ≡ length past
  pub condition : m.condition ≡ condition_at m.timers past
  pub failed : m.failed ≡ failed_at m.timers past
  pub due : IsDue m.timers past m.due
