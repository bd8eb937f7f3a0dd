-- The condition from one millisecond to the next.
use Rattle.std.specs.Prelude.{◌-◌, ◌||◌, nat_eq, nat_le, if◌then◌else◌}
use Rattle.sync_ql.specs.declared.rules.Cond.{Cond}
use Rattle.sync_ql.specs.declared.rules.Cond.TheVariants.{Good, HoldOff, Failed, Restoring}
use Rattle.sync_ql.specs.Condition.{Signal, Timers}

-- the condition after one more millisecond
abbrev pub next_condition : Timers → Cond → Signal → Cond
next_condition timers Good now = if now.up then Good else HoldOff timers.holdoff
next_condition timers (HoldOff left) now =
    if now.up then Good else if nat_le left 1 then Failed else HoldOff (left - 1)
next_condition timers Failed now =
    if now.up then (if now.clear || nat_eq timers.wtr 0 then Good else Restoring timers.wtr) else Failed
next_condition timers (Restoring left) now =
    if now.up then (if now.clear || nat_le left 1 then Good else Restoring (left - 1)) else Failed
