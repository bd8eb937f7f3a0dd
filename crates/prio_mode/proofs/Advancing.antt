-- From one millisecond in which something happens to the next.
use Rattle.std.proofs.Common.{◌≡◌, ◌≤◌, ◌<◌, ◌+◌, ℕ, zero, suc, List, [], ◌++◌, length, map, Option, IfSome, refl, ap, sym, subst, ◌∙◌, arith, append-nil, add-one}
use Rattle.std.proofs.Math.Decide.{dec_lt}
use Rattle.std.specs.List.{concat, range_with_len}
use Rattle.agenda.specs.DueTimes.{due_in}
use Rattle.sync_topo.specs.declared.event.Event.{Event}
use Rattle.sync_topo.specs.Topology.{Topology}
use Rattle.sync_topo.specs.Events.{IsEventList}
use Rattle.net_rules.specs.Signals.{events_at}
use Rattle.event_times.specs.EventTimes.{IsNextTime, AreHere, AreNext, AreAhead, MomentsLeft}
use Rattle.event_times.proofs.EventTimes.{sooner}
use Rattle.net_words.specs.Words.{all_words}
use Rattle.prio_mode.specs.declared.running.PriorityRun.{PriorityRun}
use Rattle.prio_mode.specs.PriorityRows.{row_in, rows_until}
use Rattle.prio_mode.specs.private.Running.{IsReady, IsRun, RunStands, HasRun, IsOnWay, kept_at}
use Rattle.prio_mode.proofs.Standing.{quiet-stands, no-row}
use Rattle.prio_mode.proofs.Turning.{ready-later, row-is}

-- no rows for any is none
concat-none : (f : ℕ → List ℕ) (a n : ℕ) → ((i : ℕ) → a ≤ i → i < a + n → f i ≡ [])
    → concat (map f (range_with_len a n)) ≡ []
concat-none f a zero none = refl
concat-none f a (suc n) none =
    rw (none a (omega arith) (omega arith))
    (concat-none f (a + 1) n (λ i low high. none i (omega (arith, low)) (omega (arith, high))))

-- from a millisecond up to another, up to which nothing is due
module _ (plan : Topology) (next now : ℕ) (run : PriorityRun) (is : IsRun plan next run)
    (later : next ≤ now)
    (first : next ≡ 0 → now ≡ 0) (due : (e : ℕ) → IfSome (due_in run.dues e) (λ due. now ≤ due))
  where
    ready-at : (e m : ℕ) → e < length plan.elements → next ≤ m → m ≤ now → (next ≡ 0 → m ≡ 0)
        → IsReady plan m e (kept_at plan run e)
    ready-at e m within low high begun =
        ready-later plan next m e (kept_at plan run e) (is.ready e within) low begun
        (sooner (due_in run.dues e) m now high (due e))

    -- a run is ready for it
    pub run-later : IsRun plan now run
    run-later = record {
      counted = is.counted;
      ready = λ e within. ready-at e now within later (omega arith) first;
    }

    -- and where no event comes meanwhile, it stands for each millisecond, with no more rows
    module _ (all : List Event) (listed : IsEventList plan all) (front text : List ℕ)
        (none : (t : ℕ) → next ≤ t → t < now → events_at t all ≡ []) where
      quiet-one : (m : ℕ) → next ≤ m → m < now → HasRun plan all m run front text
          → HasRun plan all (suc m) run front text
      quiet-one m low high so_far = (
        then_stands,
        so_far.1 ∙ ap (λ rows. front ++ rows) (sym (ap (λ rows. rows_until plan all m ++ rows)
            (concat-none (row_in plan all m) 0 (length plan.elements)
            (λ e from to. nothing e (omega (arith, to))))
            ∙ append-nil (rows_until plan all m))),
      )
        where
          ready : (e : ℕ) → e < length plan.elements → IsReady plan (suc m) e (kept_at plan run e)
          ready e within = ready-at e (suc m) within (omega (arith, low)) (omega (arith, high))
              (λ never. (let ended = first never in absurd (omega (arith, ended, high))))

          then_stands : RunStands plan all (suc m) run
          then_stands e within =
              quiet-stands plan all e m (kept_at plan run e).one.element listed.in_order
              (ready e within).in_time
              (ap (λ events. all_words plan events e) (none m low high)) (so_far.0 e within)

          nothing : (e : ℕ) → e < length plan.elements → row_in plan all m e ≡ []
          nothing e within =
              row-is plan all m e (kept_at plan run e) (kept_at plan run e)
              (is.ready e within).shows (is.ready e within).shows (so_far.0 e within)
              (then_stands e within)
              ∙ no-row plan m e (kept_at plan run e).one.shown (kept_at plan run e).one.shown refl

      pub quiet-until : (m : ℕ) → next ≤ m → m ≤ now → HasRun plan all next run front text
          → HasRun plan all m run front text
      quiet-until zero low high begun =
          let same : next ≡ 0 = omega (arith, low) in
          subst (λ n. HasRun plan all n run front text) same begun
      quiet-until (suc m) low high begun = elim (dec_lt m next) [
        | yes here ↦
            let same : next ≡ suc m = omega (arith, here, low) in
            subst (λ n. HasRun plan all n run front text) same begun
        | no before ↦
            quiet-one m (omega (arith, before)) (omega (arith, high))
            (quiet-until m (omega (arith, before)) (omega (arith, high)) begun)
      ]

-- each element is due no earlier than the next millisecond
pub dues-from : (plan : Topology) (next : ℕ) (run : PriorityRun) → IsRun plan next run
    → (e : ℕ) → e < length run.dues → IfSome (due_in run.dues e) (λ due. next ≤ due)
dues-from plan next run is e within =
    let ready = is.ready e (let count = is.counted.dues in omega (arith, count, within)) in
    subst (λ o. IfSome o (λ due. next ≤ due)) (sym ready.due) ready.in_time.until_due

-- a turn on
pub on-way : (plan : Topology) (events here : List Event) (left left_then : MomentsLeft)
    (until now : ℕ) (due : Option ℕ) (before run run_then : PriorityRun) (first text text_then : List ℕ)
    → IsOnWay plan events left until before run first text
    → IsNextTime left.next left.rest due left.until now
    → ((e : ℕ) → IfSome (due_in run.dues e) (λ due. now ≤ due))
    → ((all : List Event) → AreAhead plan all left → AreNext plan all left.next now here)
    → ((all : List Event) → AreAhead plan all left → AreAhead plan all left_then)
    → left_then.next ≡ now + 1 → left_then.until ≡ left.until
    → IsRun plan (suc now) run_then
    → ((all : List Event) (front : List ℕ) → AreHere plan all now here
    → HasRun plan all now run front text
    → HasRun plan all (suc now) run_then front text_then)
    → IsOnWay plan events left_then until before run_then first text_then
on-way plan events here left left_then until now due before run run_then first text text_then
    way time none_due next ahead after same is turned =
    let from : suc now ≡ left_then.next = sym (after ∙ add-one now) in
    record {
      run_is = subst (λ n. IsRun plan n run_then) from is;
      until_same = same ∙ way.until_same;
      ahead = λ all told. ahead all (way.ahead all told);
      stands = λ all told stood.
          let told_next = next all (way.ahead all told) in
          subst (λ n. HasRun plan all n run_then first text_then) from
          (turned all first told_next.here
          (quiet-until plan left.next now run way.run_is time.later time.first none_due all
          told_next.here.ordered first text told_next.none now time.later (omega arith)
          (way.stands all told stood)));
    }
