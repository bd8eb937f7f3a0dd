-- A monitor that stands for the first of some milliseconds, after which nothing happened in the others.
use Rattle.std.proofs.Common.{◌≡◌, ◌≤◌, ◌<◌, ℕ, zero, suc, ◌+◌, ◌-◌, List, ◌∷◌, length, Option, None, Some, IfSome, refl, ap, sym, ◌∙◌, arith, subst, zero-add}
use Rattle.std.specs.Prelude.{not}
use Rattle.sync_ql.specs.declared.rules.Cond.{Cond}
use Rattle.sync_ql.specs.declared.rules.Cond.TheVariants.{Good, HoldOff, Failed, Restoring}
use Rattle.sync_ql.specs.Condition.{Signal, Timers, is_up, failed_at, condition_at, quiet, after_quiet, continued, IsDue}
use Rattle.sync_ql.proofs.Staying.{is_up-after_quiet}
use Rattle.input_monitor.specs.Monitored.{Monitored, up_of}
use Rattle.input_monitor.specs.Ending.{EndsWith, IsEnd, later_by}
use Rattle.input_monitor.proofs.Conditions.{Lasts, up_of-condition_at, condition_at-after_quiet, length-continued}
use Rattle.sync_element.specs.Kept.{Follows}
use Rattle.sync_element.specs.private.Renewing.{IsToldOf}

-- a quiet millisecond after quiet ones
quiet-after : (k : ℕ) (past : List Signal) → quiet (after_quiet k past) ≡ quiet past
quiet-after k past = let up : is_up (after_quiet k past) ≡ is_up past = is_up-after_quiet k past in rw up refl

after_quiet-add : (j k : ℕ) (past : List Signal) → after_quiet j (after_quiet k past) ≡ after_quiet (j + k) past
after_quiet-add zero k past = ap (λ n. after_quiet n past) (sym (zero-add k))
after_quiet-add (suc j) k past =
    let e : suc (j + k) ≡ suc j + k = omega arith in
    ap (λ signal. signal ∷ after_quiet j (after_quiet k past)) (quiet-after k past)
    ∙ ap (λ signals. quiet past ∷ signals) (after_quiet-add j k past)
    ∙ ap (λ n. after_quiet n past) e

pub continued-continued : (n m : ℕ) (past : List Signal) → length past ≤ m → m ≤ n → continued n (continued m past) ≡ continued n past
continued-continued n m past long later =
    let all : (n - m) + (m - length past) ≡ n - length past = omega arith in
    ap (λ k. after_quiet (n - k) (continued m past)) (length-continued m past long)
    ∙ after_quiet-add (n - m) (m - length past) past
    ∙ ap (λ k. after_quiet k past) all

pub continued-self : (past : List Signal) → continued (length past) past ≡ past
continued-self past = let none : length past - length past ≡ 0 = omega arith in ap (λ k. after_quiet k past) none

continued-suc : (n : ℕ) (past : List Signal) → length past ≤ n → quiet (continued n past) ∷ continued n past ≡ continued (n + 1) past
continued-suc n past long =
    let more : suc (n - length past) ≡ n + 1 - length past = omega arith in
    ap (λ signal. signal ∷ continued n past) (quiet-after (n - length past) past) ∙ ap (λ k. after_quiet k past) more

-- what was told, continued to any later millisecond, is what was
pub follows-continued : (m : Monitored) (past : List Signal) (n : ℕ) → (f : Follows m past) → length past ≤ n → continued n past ≡ continued n f.told
follows-continued m past n f later = ap (continued n) f.quiet ∙ continued-continued n (length past) f.told f.later later

pub follows-later : (m : Monitored) (past : List Signal) (n : ℕ) → length past ≤ n → Follows m past → Follows m (continued n past)
follows-later m past n later f =
    let long = length-continued n past later in
    record {
      told = f.told;
      stands = f.stands;
      later = omega (arith, long, f.later);
      quiet = follows-continued m past n f later ∙ sym (ap (λ k. continued k f.told) long);
    }

-- a millisecond in which nothing happens
pub follows-quiet : (m : Monitored) (past : List Signal) (now : ℕ) (signal : Signal) → length past ≤ now → signal ≡ quiet (continued now past) → Follows m past → Follows m (signal ∷ continued now past)
follows-quiet m past now signal later is f =
    subst (Follows m) (sym (continued-suc now past later) ∙ sym (ap (λ s. s ∷ continued now past) is)) (follows-later m past (now + 1) (omega arith) f)

-- and one of which the monitor is told
pub follows-told : (m m_then : Monitored) (past : List Signal) (now : ℕ) (signal : Signal) → length past ≤ now → IsToldOf now signal m m_then → Follows m past → Follows m_then (signal ∷ continued now past)
follows-told m m_then past now signal later told f =
    let same : signal ∷ continued now past ≡ signal ∷ continued now f.told = ap (λ signals. signal ∷ signals) (follows-continued m past now f later) in
    let all : List Signal = signal ∷ continued now f.told in
    record {
      told = all;
      stands = told.stands f.told f.stands;
      later = omega (arith, ap length same);
      quiet = same ∙ sym (ap (λ n. continued n all) (ap length same) ∙ continued-self all);
    }

-- whether the input is up
pub follows-up : (m : Monitored) (past : List Signal) → Follows m past → is_up past ≡ up_of m.condition
follows-up m past f =
    ap is_up f.quiet
    ∙ is_up-after_quiet (length past - length f.told) f.told
    ∙ sym (up_of-condition_at m.timers f.told)
    ∙ ap up_of (sym f.stands.condition)

-- when "failed" changes
same_until : (timers : Timers) (told past : List Signal) (due : Option ℕ) (n : ℕ) → IsDue timers told due → length told ≤ n → IfSome due (λ d. n ≤ d) → failed_at timers (continued n told) ≡ failed_at timers told
same_until timers told past None n never later in_time = never n later
same_until timers told past (Some due) n change later in_time = change.same_before n later in_time

pub follows-failed : (m : Monitored) (past : List Signal) → Follows m past → IfSome m.due (λ d. length past ≤ d) → m.failed ≡ failed_at m.timers past
follows-failed m past f in_time =
    f.stands.failed
    ∙ sym (same_until m.timers f.told past m.due (length past) f.stands.due f.later in_time)
    ∙ sym (ap (failed_at m.timers) f.quiet)

pub follows-due : (m : Monitored) (past : List Signal) → Follows m past → IfSome m.due (λ d. length past ≤ d) → IsDue m.timers past m.due
follows-due m past f in_time = of m.due f.stands.due in_time (follows-failed m past f in_time)
  where
    of : (due : Option ℕ) → IsDue m.timers f.told due → IfSome due (λ d. length past ≤ d) → m.failed ≡ failed_at m.timers past → IsDue m.timers past due
    of None never in_time is = λ n later.
        ap (failed_at m.timers) (follows-continued m past n f later)
        ∙ never n (omega (arith, f.later))
        ∙ sym f.stands.failed
        ∙ is
    of (Some due) change in_time is = record {
      later = in_time;
      changed =
          ap (failed_at m.timers) (follows-continued m past (due + 1) f (omega arith))
          ∙ change.changed
          ∙ ap not (sym f.stands.failed ∙ is);
      same_before = λ n later until.
          ap (failed_at m.timers) (follows-continued m past n f later)
          ∙ change.same_before n (omega (arith, f.later)) until
          ∙ sym f.stands.failed
          ∙ is;
    }

-- a running time that ends later lasts until then
lasts_with : (next n left : ℕ) (o : Option ℕ) → EndsWith next left o → IfSome o (λ d. n ≤ d) → n - next < left
lasts_with next n left None ends in_time = absurd ends
lasts_with next n left (Some due) ends in_time = let end : due + 1 ≡ next + left = ends.0 in let later : next ≤ due = ends.1 in let until : n ≤ due = in_time in omega arith

lasts : (next n : ℕ) (c : Cond) (o : Option ℕ) → IsEnd next c o → IfSome o (λ d. n ≤ d) → Lasts (n - next) c
lasts next n Good o ends in_time = tt
lasts next n (HoldOff left) o ends in_time = lasts_with next n left o ends in_time
lasts next n Failed o ends in_time = tt
lasts next n (Restoring left) o ends in_time = lasts_with next n left o ends in_time

-- the condition, of whose running time so much less is left
pub follows-condition : (m : Monitored) (past : List Signal) → 0 < m.timers.holdoff → IsEnd m.next m.condition m.due → Follows m past → IfSome m.due (λ d. length past ≤ d) → condition_at m.timers past ≡ later_by (length past - m.next) m.condition
follows-condition m past some ends f in_time =
    let passed : length past - length f.told ≡ length past - m.next = ap (λ k. length past - k) (sym f.stands.next) in
    let still : Lasts (length past - m.next) m.condition = lasts m.next (length past) m.condition m.due ends in_time in
    let also : Lasts (length past - length f.told) (condition_at m.timers f.told) = subst (Lasts (length past - length f.told)) f.stands.condition (subst (λ k. Lasts k m.condition) (sym passed) still) in
    ap (condition_at m.timers) f.quiet
    ∙ condition_at-after_quiet m.timers some (length past - length f.told) f.told also
    ∙ ap (later_by (length past - length f.told)) (sym f.stands.condition)
    ∙ ap (λ k. later_by k m.condition) passed

-- when it ends, by what is left of it
end_with : (next n left : ℕ) (o : Option ℕ) → EndsWith next left o → next ≤ n → IfSome o (λ d. n ≤ d) → EndsWith n (left - (n - next)) o
end_with next n left None ends later in_time = ends
end_with next n left (Some due) ends later in_time = let end : due + 1 ≡ next + left = ends.0 in let until : n ≤ due = in_time in (omega arith, until)

pub end_later : (next n : ℕ) (c : Cond) (o : Option ℕ) → IsEnd next c o → next ≤ n → IfSome o (λ d. n ≤ d) → IsEnd n (later_by (n - next) c) o
end_later next n Good o ends later in_time = ends
end_later next n (HoldOff left) o ends later in_time = end_with next n left o ends later in_time
end_later next n Failed o ends later in_time = ends
end_later next n (Restoring left) o ends later in_time = end_with next n left o ends later in_time

end_after : (next : ℕ) (c : Cond) (due : ℕ) → IsEnd next c (Some due) → next ≤ due
end_after next Good due ends = absurd (cc)
end_after next (HoldOff left) due ends = ends.1
end_after next Failed due ends = absurd (cc)
end_after next (Restoring left) due ends = ends.1

pub ends_after : (next : ℕ) (c : Cond) (o : Option ℕ) → IsEnd next c o → IfSome o (λ d. next ≤ d)
ends_after next c None ends = tt
ends_after next c (Some due) ends = end_after next c due ends
