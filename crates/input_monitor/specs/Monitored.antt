-- What contracts see of a monitor.
use Rattle.std.specs.Prelude.{ℕ, ◌+◌, ◌-◌, Bool, true, false, Option, None, Some}
use Rattle.sync_ql.specs.declared.rules.Cond.{Cond}
use Rattle.sync_ql.specs.declared.rules.Cond.TheVariants.{Good, HoldOff, Failed, Restoring}
use Rattle.sync_ql.specs.Condition.{Timers}
use Rattle.input_monitor.specs.declared.monitor.Monitor.TheInside.{Inside}

-- the input's times, the first millisecond that no step has told of, the condition at the last
-- step, whether the input is failed, and when that changes if nothing happens
pub record Monitored : Type 0 where
  pub timers : Timers
  pub next : ℕ
  pub condition : Cond
  pub failed : Bool
  pub due : Option ℕ

-- whether a condition is that of a failed input
abbrev pub is_failed : Cond → Bool
is_failed Good = false
is_failed (HoldOff left) = false
is_failed Failed = true
is_failed (Restoring left) = true

-- whether an input in a condition is up
abbrev pub up_of : Cond → Bool
up_of Good = true
up_of (HoldOff left) = false
up_of Failed = false
up_of (Restoring left) = true

-- the millisecond in which a running time ends, by what is left of it just before the next one
abbrev pub end_of : ℕ → Cond → Option ℕ
end_of next Good = None
end_of next (HoldOff left) = Some (next + left - 1)
end_of next Failed = None
end_of next (Restoring left) = Some (next + left - 1)

abbrev pub monitored : Inside → Monitored
monitored m = record {
  timers = record { holdoff = m.holdoff; wtr = m.wtr };
  next = m.next;
  condition = m.condition;
  failed = is_failed m.condition;
  due = end_of m.next m.condition;
}
