-- A step makes the past that a monitor stands for longer.
use Rattle.std.proofs.Common.{◌≡◌, ◌≤◌, ◌<◌, ℕ, ◌+◌, ◌-◌, List, ◌∷◌, length, refl, ap, arith, ◌∙◌, IfSome}
use Rattle.sync_ql.specs.declared.rules.Cond.{Cond}
use Rattle.sync_ql.specs.declared.rules.Cond.TheVariants.{Good, HoldOff, Failed, Restoring}
use Rattle.sync_ql.specs.Condition.{Signal, Timers, is_up, condition_at, continued, IsSameKind}
use Rattle.input_monitor.specs.Monitored.{Monitored, is_failed, up_of, end_of}
use Rattle.input_monitor.specs.Ending.{later_by}
use Rattle.input_monitor.specs.StandsFor.{StandsFor}
use Rattle.input_monitor.specs.private.Running.{IsRunning}
use Rattle.input_monitor.proofs.Stepping.{next_condition}
use Rattle.input_monitor.proofs.Conditions.{Lasts, running, condition_at-cons, condition_at-after_quiet, is_failed-condition_at, length-continued, IsDue-end_of, up_of-condition_at}

-- what a monitor is seen as, by its times, its next millisecond and its condition
abbrev pub seen : Timers → ℕ → Cond → Monitored
seen timers next condition = record { timers = timers; next = next; condition = condition; failed = is_failed condition; due = end_of next condition }

-- what is kept right stands for the past
pub StandsFor-seen : (timers : Timers) → 0 < timers.holdoff → (next : ℕ) (condition : Cond) (past : List Signal) → next ≡ length past → condition ≡ condition_at timers past → StandsFor (seen timers next condition) past
StandsFor-seen timers some next condition past long is = record {
  next = long;
  condition = is;
  failed = ap is_failed is ∙ is_failed-condition_at timers past;
  due = rw (long, is) (IsDue-end_of timers some past);
}

lasts_until : (next now : ℕ) (c : Cond) → next ≤ now → IsRunning c → IfSome (end_of next c) (λ due. now ≤ due) → Lasts (now - next) c
lasts_until next now Good later runs in_time = tt
lasts_until next now (HoldOff left) later runs in_time = omega arith
lasts_until next now Failed later runs in_time = tt
lasts_until next now (Restoring left) later runs in_time = omega arith

-- what is left is all that changes while a time runs
pub IsSameKind-later_by : (k : ℕ) (c : Cond) → IsSameKind c (later_by k c)
IsSameKind-later_by k Good = tt
IsSameKind-later_by k (HoldOff left) = tt
IsSameKind-later_by k Failed = tt
IsSameKind-later_by k (Restoring left) = tt

-- the kind of condition stays until the due time, if nothing happens
pub same_kind_until : (timers : Timers) (condition : Cond) (next n : ℕ) (past : List Signal) → 0 < timers.holdoff → next ≡ length past → condition ≡ condition_at timers past → length past ≤ n → IfSome (end_of next condition) (λ due. n ≤ due) → IsSameKind condition (condition_at timers (continued n past))
same_kind_until timers condition next n past some long is later in_time =
    let lasts = lasts_until (length past) n (condition_at timers past) later (running timers past) (rw (long, is) at in_time) in
    rw (condition_at-after_quiet timers some (n - length past) past lasts, is) (IsSameKind-later_by (n - length past) (condition_at timers past))

-- the condition after a step
pub condition_step : (timers : Timers) (condition : Cond) (next now : ℕ) (signal : Signal) (past : List Signal) → 0 < timers.holdoff → next ≡ length past → condition ≡ condition_at timers past → next ≤ now → IfSome (end_of next condition) (λ due. now ≤ due) →
    condition_at timers (signal ∷ continued now past) ≡ next_condition timers (later_by (now - next) condition) signal
condition_step timers condition next now signal past some long is later in_time =
    let later_than_past = rw long at later in
    let lasts = lasts_until (length past) now (condition_at timers past) later_than_past (running timers past) (rw (long, is) at in_time) in
    condition_at-cons timers some signal (continued now past)
    ∙ ap (λ c. next_condition timers c signal) (condition_at-after_quiet timers some (now - length past) past lasts)
    ∙ rw (long, is) refl

-- what a step keeps right stands for the past made longer
pub StandsFor-step : (timers : Timers) → 0 < timers.holdoff → (now : ℕ) (condition : Cond) (signal : Signal) (past : List Signal) → length past ≤ now → condition ≡ condition_at timers (signal ∷ continued now past) →
    StandsFor (seen timers (now + 1) condition) (signal ∷ continued now past)
StandsFor-step timers some now condition signal past later is =
    StandsFor-seen timers some (now + 1) condition (signal ∷ continued now past) (omega (arith, length-continued now past later)) is

-- the condition while a time runs, if nothing happens
pub condition_later : (timers : Timers) (condition : Cond) (next n : ℕ) (past : List Signal) → 0 < timers.holdoff → next ≡ length past → condition ≡ condition_at timers past → next ≤ n → IfSome (end_of next condition) (λ due. n ≤ due) → later_by (n - next) condition ≡ condition_at timers (continued n past)
condition_later timers condition next n past some long is later in_time =
    let later_than_past = rw long at later in
    let lasts = lasts_until (length past) n (condition_at timers past) later_than_past (running timers past) (rw (long, is) at in_time) in
    rw (condition_at-after_quiet timers some (n - length past) past lasts, long, is) refl

-- whether an input is up, by the condition of its past
pub up_in_past : (timers : Timers) (condition : Cond) (past : List Signal) → condition ≡ condition_at timers past → up_of condition ≡ is_up past
up_in_past timers condition past is = ap up_of is ∙ up_of-condition_at timers past
