-- Beside specs/Verdict.antt, under no public clause: why an element takes an input, or doesn't.
use Rattle.std.specs.Prelude.{Bool, true, false}
use Rattle.sync_ql.specs.declared.rules.Cond.{Cond}
use Rattle.sync_ql.specs.declared.rules.Cond.TheVariants as condition

-- an input is failed in a condition
abbrev pub is_failed_in : Cond → Bool
is_failed_in condition.Good = false
is_failed_in (condition.HoldOff left) = false
is_failed_in condition.Failed = true
is_failed_in (condition.Restoring left) = true
