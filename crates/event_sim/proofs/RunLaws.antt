-- A run from one millisecond in which something happens to the next.
use Rattle.std.proofs.Common.{◌≡◌, ◌≤◌, ◌<◌, ◌+◌, ℕ, zero, suc, Bool, true, false, ◌||◌, cond, List, [], ◌++◌, length, refl, ap, sym, subst, ◌∙◌, arith}
use Rattle.std.specs.Prelude.{nat_eq, slice_index_or, if◌then◌else◌, Option, IfSome}
use Rattle.std.specs.List.{All, range_with_len}
use Rattle.std.proofs.lemmas.List.{length-append, length-map}
use Rattle.std.proofs.lemmas.List.FromFn.{length-range_with_len}
use Rattle.std.proofs.lemmas.List.Sums.{length-filter, count_by-le-length}
use Rattle.sync_topo.specs.declared.event.Event.{Event}
use Rattle.sync_topo.specs.Topology.{Topology}
use Rattle.net_rules.specs.Signals.{events_at}
use Rattle.net_rules.specs.Activity.{is_active, is_busy}
use Rattle.sync_net.specs.NetState.{NetState}
use Rattle.sync_net.specs.Standing.{StandsFor, NoneFrom}
use Rattle.sync_net.specs.Evaluated.{IsContinued, AreAloneEvaluated}
use Rattle.sync_topo.specs.Sizes.{most_rows}
use Rattle.event_sim.specs.declared.shown.Shown.{Shown}
use Rattle.event_sim.specs.declared.change.Change.{Change}
use Rattle.event_sim.specs.declared.change.Watch.{Watch}
use Rattle.event_sim.specs.declared.change.Watch.TheVariants.{Changes, Nothing}
use Rattle.event_sim.specs.declared.running.Run.{Run}
use Rattle.event_sim.specs.Rows.{shows_other, row_of, rows_in, rows_until}
use Rattle.event_sim.specs.Changes.{IsChangeOf}
use Rattle.sync_net.proofs.QuietGap.{some_element}
use Rattle.event_sim.proofs.NotingLaws.{others-within}
use Rattle.std.proofs.lemmas.List.Elements.{All-append, All-map}
use Rattle.event_times.specs.EventTimes.{IsNextTime, AreHere, AreNext, AreAhead, MomentsLeft}
use Rattle.event_sim.specs.private.Showing.{AreShown, AreShownIf, AreNoted, kept_in, others_in, rows_between}
use Rattle.event_sim.specs.private.Running.{IsOpen, IsKeptBy, RunStands, IsAfterTurn, IsTurnBound, IsBound}
use Rattle.event_sim.proofs.RowLaws.{HasElements, quiet-rows, turn-rows}
use Rattle.event_times.proofs.EventTimes.{sooner}
use Rattle.event_sim.proofs.BoundLaws.{turn-bound, turn-counts, bound-more}

-- a step goes on from the millisecond before
pub continued : (plan : Topology) (all : List Event) (now : ℕ) (told : List Event) → AreHere plan all now told → IsContinued plan all now now told
continued plan all now told are = record {
  ordered = are.ordered;
  later = omega arith;
  none = λ t low high. absurd (omega (arith, low, high));
  here = are.here;
}

-- what a step makes of a run whose changes are watched
pub turn-noted : HasElements → (net net_then : NetState) (was now : List Shown) (before after : List Change) (t : ℕ) (told : List Event) (fits : Bool)
    → net_then.plan ≡ net.plan
    → ((all : List Event) (n : ℕ) → IsContinued net.plan all n t told → StandsFor net all n → StandsFor net_then all (t + 1))
    → AreShown net was → AreShown net_then now → AreNoted fits net_then t was now before after
    → (all : List Event) → AreHere net.plan all t told → RunStands Changes net before all t → IsAfterTurn fits Changes net_then after all t
turn-noted law net net_then was now before after t told fits same steps shown shown_then noted all here run = by fits noted
  where
    stands : StandsFor net_then all (suc t)
    stands =
        let one : t + 1 ≡ suc t = omega arith in
        subst (StandsFor net_then all) one (steps all t (continued net.plan all t told here) run.stands)

    rows : rows_until net_then.plan all (suc t) ≡ before ++ rows_between net_then.plan t was now
    rows = subst (λ (plan : Topology). rows_until plan all (suc t) ≡ before ++ rows_between plan t was now) (sym same)
        (ap (λ (first : List Change). first ++ rows_in net.plan all t) (sym run.rows)
        ∙ ap (λ (last : List Change). before ++ last) (turn-rows law net net_then was now all t shown shown_then same run.stands stands))

    by : (fits : Bool) → AreNoted fits net_then t was now before after → IsAfterTurn fits Changes net_then after all t
    by true noted = record { stands = stands; rows = noted.rows ∙ sym rows }
    by false noted = record {
      stands = stands;
      rows = noted.rows ∙ run.rows ∙ ap (λ (plan : Topology). rows_until plan all t) (sym same);
      full = subst (λ (all_rows : List Change). most_rows net_then.plan < length all_rows) (sym rows) noted.many;
    }

-- what it costs
pub turn-cost : (net net_then : NetState) (t : ℕ) (told : List Event) (ticks ticks_then : ℕ)
    → AreAloneEvaluated net net_then → ticks_then ≡ ticks + length net_then.evaluated
    → ((all : List Event) (n : ℕ) → IsContinued net.plan all n t told → StandsFor net all n
    → All (λ element. is_active net.plan all element t ≡ true) net_then.evaluated)
    → (all : List Event) → AreHere net.plan all t told → StandsFor net all t → IsTurnBound all t net net_then ticks ticks_then
turn-cost net net_then t told ticks ticks_then alone ticked active all here stands =
    turn-bound all t net net_then ticks ticks_then alone ticked (active all t (continued net.plan all t told here) stands)

-- the next step is due: at its millisecond, and with the events that stand there, of all events
pub record IsTurn (net : NetState) (left : MomentsLeft) (due : Option ℕ) (now : ℕ) (here all : List Event) : Type 0 where
  pub next : IsNextTime net.next left.rest due left.until now
  pub told : AreNext net.plan all net.next now here
  pub left_same : events_at now all ≡ events_at now left.rest
  pub gap : (every : List Event) (m n : ℕ) → StandsFor net every m → m ≤ n → (net.next ≡ 0 → n ≡ 0) → NoneFrom m n every
      → IfSome due (λ d. n ≤ d) → StandsFor net every n
  pub busy : IfSome due (λ d. (every : List Event) (n : ℕ) → StandsFor net every n → 0 < net.next → n ≤ d → NoneFrom n d every → is_busy net.plan every d ≡ true)

pub the-turn : (net : NetState) (plan : Topology) (left : MomentsLeft) (due : Option ℕ) (now : ℕ) (here all : List Event)
    → net.plan ≡ plan → left.next ≡ net.next → IsNextTime left.next left.rest due left.until now
    → AreAhead plan all left → AreNext plan all left.next now here
    → ((every : List Event) (m n : ℕ) → StandsFor net every m → m ≤ n → (net.next ≡ 0 → n ≡ 0) → NoneFrom m n every
    → IfSome due (λ d. n ≤ d) → StandsFor net every n)
    → IfSome due (λ d. (every : List Event) (n : ℕ) → StandsFor net every n → 0 < net.next → n ≤ d → NoneFrom n d every → is_busy net.plan every d ≡ true)
    → IsTurn net left due now here all
the-turn net plan left due now here all same at is ahead told gap busy = record {
  next = subst (λ (n : ℕ). IsNextTime n left.rest due left.until now) at is;
  told = subst (λ (p : Topology). AreNext p all net.next now here) (sym same) (subst (λ (n : ℕ). AreNext plan all n now here) at told);
  left_same = ahead.here now is.later is.up_to;
  gap = gap;
  busy = busy;
}

-- a run that goes on and on keeps what it keeps
pub kept-more : (one two three : Run) → IsKeptBy one two → IsKeptBy two three → IsKeptBy one three
kept-more one two three first second = record {
  plan = second.plan ∙ first.plan;
  watch = second.watch ∙ first.watch;
  unwatched = λ none. second.unwatched (first.watch ∙ none) ∙ first.unwatched none;
}

-- from the last step to the next one
module _ (law : HasElements) (run : Run) (left : MomentsLeft) (due : Option ℕ) (now : ℕ) (here all : List Event)
    (turn : IsTurn run.net left due now here all) where
  -- the network stands for each millisecond up to it
  stands-until : StandsFor run.net all run.net.next → (k : ℕ) → run.net.next ≤ k → k ≤ now → StandsFor run.net all k
  stands-until stands k low high =
      turn.gap all run.net.next k stands low (λ none. let first = turn.next.first none in omega (arith, first, high))
      (λ t after before. turn.told.none t after (omega (arith, before, high)))
      (sooner due k now high turn.next.until_due)

  -- and no row comes meanwhile
  run-until : (watch : Watch) → AreShownIf watch run.net run.shown.items
      → RunStands watch run.net run.changes.items all run.net.next → RunStands watch run.net run.changes.items all now
  run-until Nothing are stood = record { stands = stands-until stood.stands now turn.next.later (omega arith); rows = stood.rows }
  run-until Changes are stood = record {
    stands = stands-until stood.stands now turn.next.later (omega arith);
    rows = stood.rows ∙ sym (quiet-rows law run.net run.shown.items all run.net.next now are turn.next.later (λ k low high. stands-until stood.stands k low high));
  }

  -- the step at it is counted
  turn-counted : StandsFor run.net all run.net.next → (steps_then : ℕ) → steps_then ≡ (if nat_eq run.net.next 0 then 0 else run.net.later_steps + 1)
      → steps_then ≤ run.net.later_steps + cond (is_busy run.net.plan all now || nat_eq now left.until) 1 0
  turn-counted stands steps_then stepped =
      turn-counts run.net.plan all left.rest run.net.next left.until now due turn.next turn.left_same
      (λ is_due started.
      let busy : (every : List Event) (n : ℕ) → StandsFor run.net every n → 0 < run.net.next → n ≤ now → NoneFrom n now every → is_busy run.net.plan every now ≡ true =
      subst (λ (o : Option ℕ). IfSome o (λ d. (every : List Event) (n : ℕ) → StandsFor run.net every n → 0 < run.net.next → n ≤ d → NoneFrom n d every → is_busy run.net.plan every d ≡ true))
      is_due turn.busy in
      busy all run.net.next stands (omega (arith, started)) turn.next.later turn.told.none)
      run.net.later_steps steps_then stepped

  -- and what it makes of the run, and costs
  pub turned : (first run_then : Run) (fits : Bool) (ticks_first ticks ticks_then : ℕ) → IsOpen run → IsKeptBy first run → first.net.next ≤ run.net.next
      → RunStands run.watch run.net run.changes.items all run.net.next → IsBound all left.until first.net run.net ticks_first ticks
      → run_then.net.next ≡ now + 1 → run_then.net.later_steps ≡ (if nat_eq run.net.next 0 then 0 else run.net.later_steps + 1)
      → ((every : List Event) → AreHere run.net.plan every now here → RunStands run.watch run.net run.changes.items every now
      → IsAfterTurn fits run_then.watch run_then.net run_then.changes.items every now)
      → ((every : List Event) → AreHere run.net.plan every now here → StandsFor run.net every now → IsTurnBound every now run.net run_then.net ticks ticks_then)
      → IsAfterTurn fits run_then.watch run_then.net run_then.changes.items all now × IsBound all left.until first.net run_then.net ticks_first ticks_then
  turned first run_then fits ticks_first ticks ticks_then may_go kept from stood bound next_then stepped noted cost =
      let at_now = run-until run.watch may_go.shown stood in (
        noted all turn.told.here at_now,
        bound-more all left.until now first.net run.net run_then.net ticks_first ticks ticks_then from turn.next.later (omega (arith, next_then)) kept.plan bound
            (turn-counted stood.stands run_then.net.later_steps stepped) (cost all turn.told.here at_now.stands),
      )

-- rows that don't fit come after the first millisecond
pub turn-late : (plan : Topology) (t next : ℕ) (was now : List Shown) (before : List Change) → length plan.elements ≤ most_rows plan
    → (next ≡ 0 → before ≡ []) → next ≤ t → most_rows plan < length (before ++ rows_between plan t was now) → 0 < t
turn-late plan zero next was now before few first early many =
    let none : before ≡ [] = first (omega (arith, early)) in
    let differs = λ (place : ℕ). shows_other (kept_in plan was place) (kept_in plan now place) in
    absurd (omega (
      arith,
      many,
      few,
      length-append before (rows_between plan 0 was now),
      ap length none,
      length-map (others_in plan was now) (λ place. row_of 0 place (kept_in plan now place)),
      length-filter differs (range_with_len 0 (length plan.elements)),
      count_by-le-length differs (range_with_len 0 (length plan.elements)),
      length-range_with_len 0 (length plan.elements),
    ))
turn-late plan (suc t) next was now before few first early many = omega arith

-- the rows of a step name what the plan has
pub noted-of-plan : (net net_then : NetState) (was now : List Shown) (before after : List Change) (t : ℕ) (fits : Bool) → net_then.plan ≡ net.plan
    → AreShown net_then now → AreNoted fits net_then t was now before after
    → All (IsChangeOf net.plan) before → All (IsChangeOf net_then.plan) after
noted-of-plan net net_then was now before after t fits same shown noted old = by fits noted
  where
    first : All (IsChangeOf net_then.plan) before
    first = subst (λ (plan : Topology). All (IsChangeOf plan) before) (sym same) old

    rows : All (IsChangeOf net_then.plan) (rows_between net_then.plan t was now)
    rows = All-map (IsChangeOf net_then.plan) (λ place. row_of t place (kept_in net_then.plan now place)) (others_in net_then.plan was now)
        (λ k d inside.
        let place : ℕ = slice_index_or (others_in net_then.plan was now) k d in
        let within : place < length net_then.plan.elements = others-within net_then.plan was now (length net_then.plan.elements) refl k d inside in
        record { element = within; input = (shown.each place (some_element net_then.plan) within).input })

    by : (fits : Bool) → AreNoted fits net_then t was now before after → All (IsChangeOf net_then.plan) after
    by true noted = subst (All (IsChangeOf net_then.plan)) (sym noted.rows) (All-append (IsChangeOf net_then.plan) before (rows_between net_then.plan t was now) first rows)
    by false noted = subst (All (IsChangeOf net_then.plan)) (sym noted.rows) first
