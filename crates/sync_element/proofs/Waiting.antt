-- While no running time ends, nothing changes where nothing is told.
use Rattle.std.proofs.Common.{◌≡◌, ◌≤◌, ◌<◌, ℕ, ◌+◌, ◌-◌, List, [], ◌∷◌, length, Option, None, Some, IfSome, sym, ◌∙◌, arith, subst}
use Rattle.sync_ql.specs.Condition.{Signal, Timers, failed_at, after_quiet, IsDue}
use Rattle.sync_ql.specs.Moment.{Moment, signals_of}
use Rattle.sync_ql.specs.Told.{quiet_moments, moments_until}
use Rattle.sync_ql.proofs.Staying.{Lasting, Stays, length-signals_of, stays-refl, stays-quiet_moments}
use Rattle.sync_element.specs.ElementState.{ElementState, inputs_of, IsInTime}
use Rattle.sync_element.specs.private.Whole.{monitor_of, IsFirstDue, IsWhole}
use Rattle.sync_element.specs.StandsFor.{IsAfter}
use Rattle.sync_element.proofs.Following.{follows-due}

-- until its running time ends, an input stays failed or not failed
pub lasts_until : (timers : Timers) (past : List Signal) (due : Option ℕ) (n j : ℕ) → IsDue timers past due → IfSome due (λ d. n ≤ d) → length past ≤ n → j ≤ n - length past → failed_at timers (after_quiet j past) ≡ failed_at timers past
lasts_until timers past None n j never in_time later few =
    let e : (length past + j) - length past ≡ j = omega arith in
    subst (λ k. failed_at timers (after_quiet k past) ≡ failed_at timers past) e (never (length past + j) (omega arith))
lasts_until timers past (Some due) n j changes in_time later few =
    let e : (length past + j) - length past ≡ j = omega arith in
    subst (λ k. failed_at timers (after_quiet k past) ≡ failed_at timers past) e (changes.same_before (length past + j) (omega arith) (omega arith))

weaker : (a b : ℕ) (o : Option ℕ) → a ≤ b → IfSome o (λ x. b ≤ x) → IfSome o (λ x. a ≤ x)
weaker a b None less all = tt
weaker a b (Some x) less all = omega arith

-- no monitor's running time ends before the first does
until_first : (e : ElementState) (n i : ℕ) (due : Option ℕ) → IsFirstDue e due → IfSome due (λ d. n ≤ d) → i < inputs_of e → IfSome (monitor_of e i).due (λ d. n ≤ d)
until_first e n i None none in_time within = rw (none i within) tt
until_first e n i (Some due) first in_time within = weaker n due (monitor_of e i).due in_time (first.first i within)

pub until_due : (e : ElementState) (n i : ℕ) → IsWhole e → IsInTime e n → i < inputs_of e → IfSome (monitor_of e i).due (λ d. n ≤ d)
until_due e n i whole in_time within = until_first e n i e.due whole.first_due in_time.until_due within

-- an input has as many milliseconds behind it as the element
pub length-input : (e : ElementState) (past : List Moment) (i : ℕ) → IsAfter e past → length (signals_of i past) ≡ e.next
length-input e past i stands = length-signals_of i past ∙ sym stands.next

pub due_after : (e : ElementState) (past : List Moment) → IsWhole e → IsAfter e past → (i : ℕ) → i < inputs_of e → IfSome (monitor_of e i).due (λ d. length (signals_of i past) ≤ d)
due_after e past whole stands i within =
    subst (λ n. IfSome (monitor_of e i).due (λ d. n ≤ d)) (sym (length-input e past i stands)) (whole.at_rest i within).due_later

-- a monitor's due time is that of its input's past
pub due_of : (e : ElementState) (past : List Moment) → IsWhole e → IsAfter e past → (i : ℕ) → i < inputs_of e → IsDue e.settings.timers (signals_of i past) (monitor_of e i).due
due_of e past whole stands i within =
    subst (λ timers. IsDue timers (signals_of i past) (monitor_of e i).due) (whole.at_rest i within).timers
    (follows-due (monitor_of e i) (signals_of i past) (stands.kept.monitors i within) (due_after e past whole stands i within))

lasting_until : (e : ElementState) (past : List Moment) (n : ℕ) → IsWhole e → IsAfter e past → IsInTime e n → Lasting e.settings past (n - length past)
lasting_until e past n whole stands in_time i within j few =
    let long = length-signals_of i past in
    let later : length past ≤ n = omega (arith, in_time.later, stands.next) in
    lasts_until e.settings.timers (signals_of i past) (monitor_of e i).due n j (due_of e past whole stands i within) (until_due e n i whole in_time within) (omega arith) (omega arith)

-- from the last step up to the due time, all stays if nothing is told
pub stays_until : (e : ElementState) (past : List Moment) (n : ℕ) → IsWhole e → IsAfter e past → IsInTime e n → Stays e.settings past (moments_until e.settings n past)
stays_until e [] n whole stands in_time =
    let start : n - 0 ≡ 0 = omega (arith, in_time.first stands.next) in
    subst (λ k. Stays e.settings [] (quiet_moments e.settings k [])) (sym start) (stays-refl e.settings [])
stays_until e (now ∷ before) n whole stands in_time =
    stays-quiet_moments e.settings (now ∷ before) (n - length (now ∷ before)) (omega arith) (lasting_until e (now ∷ before) n whole stands in_time)
