-- How the condition of an input goes on from one millisecond to the next.
use Rattle.std.proofs.Common.{◌≡◌, ◌≤◌, ◌<◌, ℕ, zero, suc, ◌+◌, ◌-◌, Bool, true, false, List, [], ◌∷◌, length, refl, ap, arith, sym, ◌∙◌}
use Rattle.std.specs.Prelude.{not, ⊤}
use Rattle.std.proofs.lemmas.Bool.Decides.{nat_tests}
use Rattle.sync_ql.specs.declared.rules.Cond.{Cond}
use Rattle.sync_ql.specs.declared.rules.Cond.TheVariants.{Good, HoldOff, Failed, Restoring}
use Rattle.sync_ql.specs.Condition.{Signal, Timers, is_up, down_for, up_for, failed_at, left_at, condition_of, condition_at, quiet, after_quiet, continued, IsDue}
use Rattle.input_monitor.specs.Monitored.{is_failed, up_of, end_of}
use Rattle.input_monitor.specs.Ending.{later_by}
use Rattle.input_monitor.specs.private.Running.{IsRunning}
use Rattle.input_monitor.proofs.Stepping.{next_condition}

-- what is up is not down, and the other way round
down_for-up : (past : List Signal) → is_up past ≡ true → down_for past ≡ 0
down_for-up [] up = refl
down_for-up (now ∷ before) up = grind arith

up_for-down : (past : List Signal) → is_up past ≡ false → up_for past ≡ 0
up_for-down [] down = refl
up_for-down (now ∷ before) down = grind arith

-- how long an input can have been down without having failed, and up while it is failed
down_for-bound : (timers : Timers) (past : List Signal) → failed_at timers past ≡ false → down_for past ≤ timers.holdoff
unfolding failed_at
down_for-bound timers [] works = omega arith
down_for-bound timers (now ∷ before) works = grind (arith, nat_tests)

up_for-bound : (timers : Timers) (past : List Signal) → is_up past ≡ true → failed_at timers past ≡ true → up_for past ≤ timers.wtr
unfolding failed_at
up_for-bound timers [] up fails = omega arith
up_for-bound timers (now ∷ before) up fails = grind (arith, nat_tests)

-- before 0 an input is good
pub condition_at-empty : (timers : Timers) → Good ≡ condition_at timers []
unfolding condition_at failed_at
condition_at-empty timers = refl

-- one more millisecond: what was counts by the condition alone
pub condition_at-cons : (timers : Timers) → 0 < timers.holdoff → (now : Signal) (past : List Signal) → condition_at timers (now ∷ past) ≡ next_condition timers (condition_at timers past) now
unfolding condition_at failed_at left_at
condition_at-cons timers some now past =
    let no_down = down_for-up past in
    let no_up = up_for-down past in
    let in_holdoff = down_for-bound timers past in
    let restoring = up_for-bound timers past in
    grind (arith, nat_tests)

-- an input is up in the condition of its past exactly where it is at its end
pub up_of-condition_at : (timers : Timers) (past : List Signal) → up_of (condition_at timers past) ≡ is_up past
unfolding condition_at
up_of-condition_at timers past = of (is_up past) (failed_at timers past) (left_at timers past)
  where
    of : (u f : Bool) (left : ℕ) → up_of (condition_of u f left) ≡ u
    of true true left = refl
    of true false left = refl
    of false true left = refl
    of false false left = refl

pub is_failed-condition_at : (timers : Timers) (past : List Signal) → is_failed (condition_at timers past) ≡ failed_at timers past
unfolding condition_at
is_failed-condition_at timers past = of (is_up past) (failed_at timers past) (left_at timers past)
  where
    of : (u f : Bool) (left : ℕ) → is_failed (condition_of u f left) ≡ f
    of true true left = refl
    of true false left = refl
    of false true left = refl
    of false false left = refl

-- a time that runs has not ended
pub running : (timers : Timers) (past : List Signal) → IsRunning (condition_at timers past)
unfolding condition_at left_at
running timers past =
    of (is_up past) (failed_at timers past) refl refl
  where
    of : (u f : Bool) → is_up past ≡ u → failed_at timers past ≡ f → IsRunning (condition_of u f (left_at timers past))
    of true true up fails = let bound = up_for-bound timers past up fails in grind arith
    of true false up works = tt
    of false true down fails = tt
    of false false down works = let bound = down_for-bound timers past works in grind arith

-- a running time does not end within k milliseconds
abbrev pub Lasts : ℕ → Cond → Type 0
Lasts k Good = ⊤
Lasts k (HoldOff left) = k < left
Lasts k Failed = ⊤
Lasts k (Restoring left) = k < left

later_by-zero : (c : Cond) → later_by 0 c ≡ c
later_by-zero Good = refl
later_by-zero (HoldOff left) = ap HoldOff (omega arith)
later_by-zero Failed = refl
later_by-zero (Restoring left) = ap Restoring (omega arith)

lasts_less : (k : ℕ) (c : Cond) → Lasts (suc k) c → Lasts k c
lasts_less k Good lasts = tt
lasts_less k (HoldOff left) lasts = omega arith
lasts_less k Failed lasts = tt
lasts_less k (Restoring left) lasts = omega arith

later_by-suc : (timers : Timers) (k : ℕ) (c : Cond) → Lasts (suc k) c → next_condition timers (later_by k c) (record { up = up_of c; clear = false }) ≡ later_by (suc k) c
later_by-suc timers k Good lasts = refl
later_by-suc timers k (HoldOff left) lasts = grind (arith, nat_tests)
later_by-suc timers k Failed lasts = refl
later_by-suc timers k (Restoring left) lasts = grind (arith, nat_tests)

-- one more millisecond in which nothing happens
condition_at-after_quiet_suc : (timers : Timers) → 0 < timers.holdoff → (k : ℕ) (past : List Signal) → condition_at timers (after_quiet k past) ≡ later_by k (condition_at timers past) → condition_at timers (after_quiet (suc k) past) ≡ next_condition timers (later_by k (condition_at timers past)) (record { up = up_of (condition_at timers past); clear = false })
condition_at-after_quiet_suc timers some k past before =
    condition_at-cons timers some (quiet past) (after_quiet k past)
    ∙ ap (λ c. next_condition timers c (quiet past)) before
    ∙ ap (λ u. next_condition timers (later_by k (condition_at timers past)) (record { up = u; clear = false })) (sym (up_of-condition_at timers past))

-- where nothing happens, a running time runs on
pub condition_at-after_quiet : (timers : Timers) → 0 < timers.holdoff → (k : ℕ) (past : List Signal) → Lasts k (condition_at timers past) → condition_at timers (after_quiet k past) ≡ later_by k (condition_at timers past)
condition_at-after_quiet timers some zero past lasts = sym (later_by-zero (condition_at timers past))
condition_at-after_quiet timers some (suc k) past lasts =
    condition_at-after_quiet_suc timers some k past (condition_at-after_quiet timers some k past (lasts_less k (condition_at timers past) lasts))
    ∙ later_by-suc timers k (condition_at timers past) lasts

length-after_quiet : (k : ℕ) (past : List Signal) → length (after_quiet k past) ≡ k + length past
length-after_quiet zero past = omega arith
length-after_quiet (suc k) past = omega (arith, length-after_quiet k past)

pub length-continued : (n : ℕ) (past : List Signal) → length past ≤ n → length (continued n past) ≡ n
length-continued n past long = omega (arith, length-after_quiet (n - length past) past)

is_failed-later_by : (k : ℕ) (c : Cond) → is_failed (later_by k c) ≡ is_failed c
is_failed-later_by k Good = refl
is_failed-later_by k (HoldOff left) = refl
is_failed-later_by k Failed = refl
is_failed-later_by k (Restoring left) = refl

-- where nothing happens, an input stays failed, or not failed, while a running time runs
failed_at-after_quiet : (timers : Timers) → 0 < timers.holdoff → (k : ℕ) (past : List Signal) → Lasts k (condition_at timers past) → failed_at timers (after_quiet k past) ≡ failed_at timers past
failed_at-after_quiet timers some k past lasts =
    sym (is_failed-condition_at timers (after_quiet k past))
    ∙ ap is_failed (condition_at-after_quiet timers some k past lasts)
    ∙ is_failed-later_by k (condition_at timers past)
    ∙ is_failed-condition_at timers past

-- where a running time ends, "failed" changes
ends_holdoff : (timers : Timers) (k : ℕ) → is_failed (next_condition timers (later_by k (HoldOff (suc k))) (record { up = false; clear = false })) ≡ true
ends_holdoff timers k = grind (arith, nat_tests)

ends_restoring : (timers : Timers) (k : ℕ) → is_failed (next_condition timers (later_by k (Restoring (suc k))) (record { up = true; clear = false })) ≡ false
ends_restoring timers k = grind (arith, nat_tests)

changes : (timers : Timers) → 0 < timers.holdoff → (k : ℕ) (past : List Signal) (c : Cond) → condition_at timers past ≡ c → Lasts k c → is_failed (next_condition timers (later_by k c) (record { up = up_of c; clear = false })) ≡ not (is_failed c) →
    (due : ℕ) → due + 1 - length past ≡ suc k → failed_at timers (continued (due + 1) past) ≡ not (failed_at timers past)
changes timers some k past c is lasts flips due at =
    ap (λ n. failed_at timers (after_quiet n past)) at
    ∙ sym (is_failed-condition_at timers (after_quiet (suc k) past))
    ∙ ap is_failed (condition_at-after_quiet_suc timers some k past (condition_at-after_quiet timers some k past (rw is lasts)))
    ∙ (rw is flips)
    ∙ ap not (sym (ap is_failed is) ∙ is_failed-condition_at timers past)

-- when "failed" changes, by the condition
pub IsDue-end_of : (timers : Timers) → 0 < timers.holdoff → (past : List Signal) → IsDue timers past (end_of (length past) (condition_at timers past))
IsDue-end_of timers some past = of (condition_at timers past) refl
  where
    of : (c : Cond) → condition_at timers past ≡ c → IsDue timers past (end_of (length past) c)
    of Good is = λ n long. failed_at-after_quiet timers some (n - length past) past (rw is tt)
    of Failed is = λ n long. failed_at-after_quiet timers some (n - length past) past (rw is tt)
    of (HoldOff zero) is = absurd (let runs = rw is at (running timers past) in omega arith)
    of (HoldOff (suc k)) is = record {
      later = omega arith;
      changed = changes timers some k past (HoldOff (suc k)) is (omega arith) (ends_holdoff timers k) (length past + suc k - 1) (omega arith);
      same_before = λ n long within. failed_at-after_quiet timers some (n - length past) past (rw is (omega arith));
    }
    of (Restoring zero) is = absurd (let runs = rw is at (running timers past) in omega arith)
    of (Restoring (suc k)) is = record {
      later = omega arith;
      changed = changes timers some k past (Restoring (suc k)) is (omega arith) (ends_restoring timers k) (length past + suc k - 1) (omega arith);
      same_before = λ n long within. failed_at-after_quiet timers some (n - length past) past (rw is (omega arith));
    }
