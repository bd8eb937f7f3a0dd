-- What a step makes of a network that stands for all events, and what its due time says.
use Rattle.std.proofs.Common.{◌≡◌, ◌≤◌, ◌<◌, ◌+◌, ◌-◌, ℕ, zero, suc, Bool, true, false, ◌||◌, nat_eq, List, length, Option, None, Some, IfSome, refl, ap, sym, subst, ◌∙◌, inl, inr, arith}
use Rattle.std.specs.Prelude.{slice_index_or, option_and_then, not}
use Rattle.std.specs.List.{list_any, All}
use Rattle.std.proofs.Math.Decide.{dec_lt}
use Rattle.std.proofs.lemmas.Bool.{true≢false, true_from_ne_false}
use Rattle.std.proofs.lemmas.Option.{none-some}
use Rattle.sync_ql.specs.Messages.{is_same_level}
use Rattle.agenda.specs.DueTimes.{due_in}
use Rattle.link_model.specs.LineState.{LineState}
use Rattle.sync_topo.specs.declared.event.Event.{Event}
use Rattle.sync_topo.specs.Topology.{Topology}
use Rattle.sync_topo.specs.Lines.{line_count, line_input, receiver_of, IsNominated}
use Rattle.sync_topo.proofs.LineLaws.{IsNominated-within}
use Rattle.net_rules.specs.Signals.{signals_by, events_at}
use Rattle.net_rules.specs.History.{heard, out_at}
use Rattle.net_rules.specs.Activity.{touches, is_active, is_touched}
use Rattle.net_rules.proofs.IdleLaws.{inactive-is}
use Rattle.sync_net.specs.declared.parts.NetParts.{NetParts}
use Rattle.sync_net.specs.Kept.{heard_on}
use Rattle.sync_net.specs.NetState.{line_in, NoneDueBefore, IsDueAt}
use Rattle.sync_net.specs.NetState as Net
use Rattle.sync_net.specs.Standing.{IsOfPast}
use Rattle.sync_net.specs.Sound.{IsSoundLine, AreSound}
use Rattle.sync_net.specs.private.NetStep.{IsNetStep, HasCause, AreEvaluatedFor}
use Rattle.sync_net.specs.Evaluated.{IsContinued}
use Rattle.sync_net.specs.Whole.{state_of}
use Rattle.sync_net.specs.private.Whole.{IsReadyLine, IsWhole}
use Rattle.sync_net.proofs.StageLaws.{none-of}
use Rattle.sync_net.proofs.QuietGap.{stands-later, heard-then, some_element}
use Rattle.sync_net.proofs.ActiveLaws.{element-active}
use Rattle.sync_net.proofs.Joining.{stands_then}
use Rattle.sync_net.proofs.Ending.{listed-at}

pub if-some : {A : Type 0} (P Q : A → Type 0) → ((a : A) → P a → Q a) → (o : Option A) → IfSome o P → IfSome o Q
if-some P Q each (Some a) holds = each a holds
if-some P Q each None holds = holds

-- what is whole is sound
pub whole-sound : (plan : Topology) (spent : Bool) (p : NetParts) → IsWhole plan p → AreSound (state_of plan spent p)
whole-sound plan spent p whole = record {
  elements = λ element other within. (whole.elements element other within).sound;
  lines = λ line within. if-some (IsReadyLine plan p.next line) (IsSoundLine plan line) (λ state ready. ready.sound) (line_in p.lines.items line) (whole.lines line within);
  every = whole.every;
}

-- nothing is due before the next millisecond
pub whole-later : (plan : Topology) (spent : Bool) (p : NetParts) → IsWhole plan p → NoneDueBefore (state_of plan spent p) p.next
whole-later plan spent p whole = record {
  elements = λ element other within. (whole.elements element other within).due_later;
  lines = λ line within. if-some (IsReadyLine plan p.next line) (λ state. IfSome state.due (λ due. p.next ≤ due)) (λ state ready. ready.due_later) (line_in p.lines.items line) (whole.lines line within);
}

-- a network that isn't spent
pub state-live : (plan : Topology) (spent : Bool) (p : NetParts) → spent ≡ false → state_of plan spent p ≡ state_of plan false p
state-live plan spent p live = ap (λ b. state_of plan b p) live

-- an element that makes a step for a cause is active
module _ (plan : Topology) (all events : List Event) (p q : NetParts) (whole : IsWhole plan p) where
  cause-at : (now : ℕ) → IsOfPast (state_of plan false p) all now → IsOfPast (state_of plan false q) all (suc now) → Net.IsInTime (state_of plan false p) now → events_at now all ≡ events
      → (element : ℕ) → element < length plan.elements → HasCause now events (state_of plan false p) (state_of plan false q) element → is_active plan all element now ≡ true
  cause-at zero before after in_time here element within cause = refl
  cause-at (suc k) before after in_time here element within cause = true_from_ne_false (is_active plan all element (suc k)) (λ none. elim cause [
    | inl begun ↦ absurd (let never : suc k ≡ 0 = in_time.first begun in omega (arith, never))
    | inr (inl touched) ↦ true≢false (sym touched ∙ ap (list_any (λ event. touches plan element event.what)) (sym here) ∙ untouched none)
    | inr (inr (inl other)) ↦ heard_same none other.line other.nominated other.into other.other
    | inr (inr (inr due)) ↦ true≢false (sym (element-active plan all element k (slice_index_or p.elements.items element (some_element plan))
        (whole.elements element (some_element plan) within).sound (before.elements element (some_element plan) within) (due (some_element plan))) ∙ none)
  ])
    where
      untouched : is_active plan all element (suc k) ≡ false → is_touched plan all element (suc k) ≡ false
      untouched none = (none-of (nat_eq (suc k) 0) (is_touched plan all element (suc k)) (none-of (nat_eq (suc k) 0 || is_touched plan all element (suc k)) _ none).0).1

      heard_same : is_active plan all element (suc k) ≡ false → (line : ℕ) → IsNominated plan line → receiver_of plan line ≡ element
          → is_same_level (heard_on (state_of plan false q).kept line) (heard_on (state_of plan false p).kept line) ≡ false → ⊥
      heard_same none line nominated into other =
          let idle = (inactive-is plan all (out_at plan (signals_by plan all)) element k none).idle (line_input line)
          (record { has = IsNominated-within plan line nominated; nominated = nominated; of_element = into }) in
          let was : heard_on (state_of plan false p).kept line ≡ heard plan (signals_by plan all) (out_at plan (signals_by plan all)) line k =
          before.heards line nominated ∙ sym (heard-then plan (signals_by plan all) (out_at plan (signals_by plan all)) line k) in
          let is : heard_on (state_of plan false q).kept line ≡ heard plan (signals_by plan all) (out_at plan (signals_by plan all)) line (suc k) =
          after.heards line nominated ∙ sym (heard-then plan (signals_by plan all) (out_at plan (signals_by plan all)) line (suc k)) in
          let same : not (is_same_level (heard_on (state_of plan false q).kept line) (heard_on (state_of plan false p).kept line)) ≡ false =
          rw (is, was) idle.heard_same in
          true≢false (sym (ap not other) ∙ same)

module _ (plan : Topology) (all events : List Event) (n now : ℕ) (p q : NetParts) (whole : IsWhole plan p)
    (is : IsOfPast (state_of plan false p) all n) (here : IsContinued plan all n now events) (in_time : Net.IsInTime (state_of plan false p) now)
    (step : IsNetStep now events (state_of plan false p) (state_of plan false q)) where
  -- up to the step it stands for what it stood for
  stands_here : IsOfPast (state_of plan false p) all now
  stands_here = stands-later (state_of plan false p) all n now whole.well_formed (whole-sound plan false p whole) is here.later in_time.first here.none in_time.none_due

  stands_next : IsOfPast (state_of plan false q) all (suc now)
  stands_next = stands_then (state_of plan false p) (state_of plan false q) all events now whole.well_formed (whole-sound plan false p whole) here.ordered.in_order stands_here here.here step

  pub stands_after : IsOfPast (state_of plan false q) all (now + 1)
  stands_after = let next : suc now ≡ now + 1 = omega arith in subst (IsOfPast (state_of plan false q) all) next stands_next

  -- all that are evaluated are active
  pub all_active : AreEvaluatedFor now events (state_of plan false p) (state_of plan false q) → All (λ element. is_active plan all element now ≡ true) q.tellings.active.listed
  all_active evaluated = λ i d inside.
      cause-at plan all events p q whole now stands_here stands_next in_time here.here (slice_index_or q.tellings.active.listed i d) (evaluated.within i d inside)
      (evaluated.cause (slice_index_or q.tellings.active.listed i d) (listed-at q.tellings.active.listed i d inside))

-- when a network is due
module _ (plan : Topology) (p : NetParts) (whole : IsWhole plan p) where
  -- what no object is due before
  pub first_least : (n : ℕ) → ((i : ℕ) → i < length p.dues → IfSome (due_in p.dues i) (λ due. n ≤ due)) → NoneDueBefore (state_of plan false p) n
  first_least n none = record {
    elements = λ element other within. subst (λ o. IfSome o (λ due. n ≤ due)) (whole.element_dues element other within) (none element (omega (arith, within, whole.dues_count)));
    lines = λ line within. at line (line_in p.lines.items line) (subst (λ o. IfSome o (λ due. n ≤ due)) (whole.line_dues line within) (none (length plan.elements + line) (omega (arith, within, whole.dues_count))));
  }
    where
      at : (line : ℕ) → (o : Option LineState) → IfSome (option_and_then (λ state. state.due) o) (λ due. n ≤ due) → IfSome o (λ state. IfSome state.due (λ due. n ≤ due))
      at line (Some state) holds = holds
      at line None holds = holds

  -- an object that is due
  pub due_here : (i now : ℕ) → i < length p.dues → due_in p.dues i ≡ Some now → IsDueAt (state_of plan false p) now
  due_here i now inside at = of (dec_lt i (length plan.elements))
    where
      kept : (line : ℕ) → line < line_count plan → (o : Option LineState) → line_in p.lines.items line ≡ o → option_and_then (λ state. state.due) o ≡ Some now → IsDueAt (state_of plan false p) now
      kept line within None has is = absurd (none-some now is)
      kept line within (Some state) has is = inr (record { line = line; state = state; within = within; has = has; due = is })

      of : Dec (i < length plan.elements) → IsDueAt (state_of plan false p) now
      of (yes element) = inl (i, element, λ other. sym (whole.element_dues i other element) ∙ at)
      of (no past) =
          let line : ℕ = i - length plan.elements in
          let same : length plan.elements + line ≡ i = omega (arith, past) in
          let within : line < line_count plan = omega (arith, past, inside, whole.dues_count) in
          kept line within (line_in p.lines.items line) refl (sym (whole.line_dues line within) ∙ ap (due_in p.dues) same ∙ at)
