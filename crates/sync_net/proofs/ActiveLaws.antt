-- Where something is due, something happens.
use Rattle.std.proofs.Common.{◌≡◌, ◌≤◌, ◌<◌, inl, inr, ℕ, zero, suc, ◌+◌, Bool, true, false, not, ◌&&◌, ◌||◌, List, [], ◌∷◌, length, slice_get, slice_index_or, Some, IfSome, refl, ap, sym, subst, ◌∙◌, arith}
use Rattle.std.specs.Prelude.{nat_eq}
use Rattle.std.specs.List.{list_any, range_with_len}
use Rattle.std.proofs.lemmas.Bool.{true≢false, and_from, or_parts, true_from_ne_false}
use Rattle.std.proofs.lemmas.List.Folds.{list_any_at}
use Rattle.std.proofs.lemmas.List.FromFn.{length-range_with_len, get_or-range_with_len}
use Rattle.std.proofs.lemmas.Option.{slice_get_cases}
use Rattle.sync_text.proofs.Each.{each-at}
use Rattle.sync_ql.proofs.SameMoments.{same_level}
use Rattle.sync_ql.specs.Condition.{failed_at}
use Rattle.sync_ql.specs.Moment.{signals_of}
use Rattle.sync_ql.specs.FirstChange.{IsFirstChange}
use Rattle.sync_ql.specs.Messages.{is_same_level}
use Rattle.sync_ql.specs.Told.{moments_until}
use Rattle.sync_ql.specs.Quiet.{IsSameFailed, SomeFailedChanges, IsElementDue}
use Rattle.sync_ql.proofs.Delivered.{length-past_of}
use Rattle.sync_element.specs.ElementState.{ElementState}
use Rattle.sync_element.proofs.ElementSteps.{past-quiet}
use Rattle.link_model.specs.LineState.{LineState}
use Rattle.sync_topo.specs.declared.input.InputId.{InputId}
use Rattle.sync_topo.specs.declared.event.Event.{Event}
use Rattle.sync_topo.specs.Topology.{Topology}
use Rattle.sync_topo.specs.Lines.{line_count, line_input, inputs_of, is_nominated}
use Rattle.sync_topo.specs.WellFormed.{IsWellFormed}
use Rattle.sync_topo.proofs.LineLaws.{IsNominated-within}
use Rattle.net_rules.specs.Signals.{Signals, signals_by, events_at}
use Rattle.net_rules.specs.Inputs.{IsInputOf}
use Rattle.net_rules.specs.History.{Levels, settings_of, heard, moment_at, element_past, failed_by, out_at}
use Rattle.sync_text.specs.Tests.{differs}
use Rattle.net_rules.specs.Activity.{is_active, news_arrives, is_busy}
use Rattle.net_rules.proofs.InputLaws.{inputs-are}
use Rattle.net_rules.proofs.NetLaws.{failed-at, many-inputs}
use Rattle.net_rules.proofs.EventLaws.{up-same}
use Rattle.net_rules.proofs.PlanLaws.{IsDelayed-well}
use Rattle.net_rules.proofs.IdleLaws.{IsInactive, inactive-is, quiet-inactive, quiet-heard, same-heard}
use Rattle.net_rules.specs.Signals.{says_up}
use Rattle.sync_net.specs.NetState.{NetState, NoneDueBefore, IsDueAt}
use Rattle.sync_net.specs.Sound.{IsSoundElement, IsSoundLine, AreSound}
use Rattle.sync_net.specs.Standing.{ElementStands, LineStands, IsOfPast, NoneFrom}
use Rattle.sync_net.proofs.QuietObjects.{HasNoNews, sound-due}
use Rattle.sync_net.proofs.NoNews.{IsHeardSame, no-news-untouched}
use Rattle.sync_net.proofs.QuietGap.{some_element, none-speaks, stands-later}
use Rattle.sync_net.proofs.LineNews.{line-busy}

-- in an element that is due, and told nothing, an input's "failed" changes
changed-place : (plan : Topology) (signals : Signals) (out : Levels) (place t : ℕ) (element : ElementState)
    → IsSoundElement plan place element → ElementStands plan signals out place (suc t) element → HasNoNews plan signals out place t
    → element.due ≡ Some (suc t)
    → SomeFailedChanges (settings_of plan place) (element_past plan signals out place (suc t)) (element_past plan signals out place (suc (suc t)))
changed-place plan signals out place t element sound is none at =
    let settings = settings_of plan place in
    let past = element_past plan signals out place element.next in
    let first : IsFirstChange (λ n. IsSameFailed settings past (moments_until settings n past)) (λ n. SomeFailedChanges settings past (moments_until settings n past)) (length past) (suc t) =
    subst (IsElementDue settings past) at (sound-due plan signals out place (suc t) element sound is) in
    let one : suc t + 1 ≡ suc (suc t) = omega arith in
    let changed = subst (λ n. SomeFailedChanges settings past (moments_until settings n past)) one first.changed in
    let long = length-past_of (moment_at plan signals (heard plan signals out) place) element.next in
    let later = is.in_time.later in
    let same = first.same_before (suc t) (omega (arith, long, later)) (omega arith) changed.0 changed.1 in (
      changed.0,
      changed.1,
      ap (λ p. failed_at settings.timers (signals_of changed.0 p)) (past-quiet (settings_of plan place) (moment_at plan signals (heard plan signals out) place) (suc t) element is none)
          ∙ changed.2
          ∙ ap not (sym same ∙ sym (ap (λ p. failed_at settings.timers (signals_of changed.0 p)) is.quiet)),
    )

-- what isn't other isn't the contrary
not_same : (a b : Bool) → differs a b ≡ false → a ≡ not b → ⊥
not_same true true none other = true≢false other
not_same false false none other = true≢false (sym other)
not_same true false none other = true≢false none
not_same false true none other = true≢false none

-- into an element that isn't active the same is heard
inactive-heard : (plan : Topology) (events : List Event) (out : Levels) (place t : ℕ) → IsInactive plan events out place t
    → IsHeardSame plan (signals_by plan events) out place t
inactive-heard plan events out place t inactive line nominated of =
    same-heard (heard plan (signals_by plan events) out line (suc t)) (heard plan (signals_by plan events) out line t)
    (inactive.idle (line_input line) (record { has = IsNominated-within plan line nominated; nominated = nominated; of_element = of })).heard_same

-- so an element that isn't active isn't due
inactive-not_due : (plan : Topology) (events : List Event) (out : Levels) (place t : ℕ) (element : ElementState) → IsInactive plan events out place t
    → IsSoundElement plan place element → ElementStands plan (signals_by plan events) out place (suc t) element → element.due ≡ Some (suc t) → ⊥
inactive-not_due plan events out place t element inactive sound is at = elim (slice_get_cases (inputs_of plan place) changed.0).1 [
  | inl found ↦ different found.0 found.2
  | inr past ↦ omega (arith, changed.1, many-inputs plan place, past.0)
]
  where
    signals : Signals
    signals = signals_by plan events

    changed : SomeFailedChanges (settings_of plan place) (element_past plan signals out place (suc t)) (element_past plan signals out place (suc (suc t)))
    changed = changed-place plan signals out place t element sound is
        (no-news-untouched plan events out place t inactive.untouched (inactive-heard plan events out place t inactive)) at

    different : (input : InputId) → slice_get (inputs_of plan place) changed.0 ≡ Some input → ⊥
    different input there =
        let of = each-at (IsInputOf plan place) (inputs_of plan place) changed.0 input (inputs-are plan place) there in
        not_same (failed_by plan signals input (suc t)) (failed_by plan signals input t) (inactive.idle input of).failed
        (sym (failed-at plan signals out place (suc t) changed.0 input there of.of_element)
        ∙ changed.2
        ∙ ap not (failed-at plan signals out place t changed.0 input there of.of_element))

-- an element that is due in a millisecond is active in it
pub element-active : (plan : Topology) (events : List Event) (place t : ℕ) (element : ElementState) → IsSoundElement plan place element
    → ElementStands plan (signals_by plan events) (out_at plan (signals_by plan events)) place (suc t) element → element.due ≡ Some (suc t)
    → is_active plan events place (suc t) ≡ true
element-active plan events place t element sound is at =
    true_from_ne_false (is_active plan events place (suc t)) (λ none.
    inactive-not_due plan events (out_at plan (signals_by plan events)) place t element (inactive-is plan events (out_at plan (signals_by plan events)) place t none) sound is at)

-- where no event is at a millisecond, none is kept of it
none-kept : (events : List Event) (t : ℕ) → list_any (λ event. nat_eq event.at t) events ≡ false → events_at t events ≡ []
none-kept [] t none = refl
none-kept (event ∷ events) t none =
    let parts = or_parts (nat_eq event.at t) (list_any (λ event. nat_eq event.at t) events) none in
    rw (parts.0, none-kept events t parts.1) refl

-- a number that passes a test is one of those that do
any-passes : (test : ℕ → Bool) (n k : ℕ) → k < n → test k ≡ true → list_any test (range_with_len 0 n) ≡ true
any-passes test n k within passes =
    let here : slice_index_or (range_with_len 0 n) k 0 ≡ k = get_or-range_with_len 0 n k 0 within ∙ omega arith in
    list_any_at test (range_with_len 0 n) k 0 (omega (arith, within, length-range_with_len 0 n)) (ap test here ∙ passes)

-- the parts of a quiet millisecond
pub record IsQuiet (plan : Topology) (events : List Event) (t : ℕ) : Type 0 where
  pub none : events_at t events ≡ []
  pub no_news : list_any (λ line. is_nominated plan line && news_arrives plan (signals_by plan events) (out_at plan (signals_by plan events)) line t) (range_with_len 0 (line_count plan)) ≡ false

-- a millisecond that isn't busy is quiet in each part
quiet-parts : (plan : Topology) (events : List Event) (t : ℕ) → is_busy plan events t ≡ false → IsQuiet plan events t
quiet-parts plan events t quiet =
    let parts = or_parts (list_any (λ event. nat_eq event.at t) events || list_any (λ element. is_active plan events element t) (range_with_len 0 (length plan.elements)))
    (list_any (λ line. is_nominated plan line && news_arrives plan (signals_by plan events) (out_at plan (signals_by plan events)) line t) (range_with_len 0 (line_count plan))) quiet in
    record {
      none = none-kept events t (or_parts (list_any (λ event. nat_eq event.at t) events) (list_any (λ element. is_active plan events element t) (range_with_len 0 (length plan.elements))) parts.0).0;
      no_news = parts.1;
    }

-- in a quiet millisecond no line is due
quiet-line : (plan : Topology) (events : List Event) (line t : ℕ) (state : LineState) → IsWellFormed plan → is_busy plan events (suc t) ≡ false
    → IsSoundLine plan line state → LineStands plan (signals_by plan events) (out_at plan (signals_by plan events)) line (suc t) state
    → state.due ≡ Some (suc t) → ⊥
quiet-line plan events line t state well quiet sound is at =
    elim (line-busy plan signals out line t state (IsDelayed-well plan well line sound.nominated) sound is at
    (up-same events (line_input line) t (none-speaks (says_up (line_input line)) events (suc t) (quiet-parts plan events (suc t) quiet).none))) [
      | inl news ↦ true≢false (
          sym (any-passes (λ l. is_nominated plan l && news_arrives plan signals out l (suc t)) (line_count plan) line (IsNominated-within plan line sound.nominated)
          (and_from (is_nominated plan line) (news_arrives plan signals out line (suc t)) sound.nominated news))
          ∙ (quiet-parts plan events (suc t) quiet).no_news
          )
      | inr other ↦ true≢false (
          sym (same_level (heard plan signals out line t))
          ∙ ap (λ level. is_same_level level (heard plan signals out line t)) (sym (quiet-heard plan events t line well quiet sound.nominated))
          ∙ other
          )
    ]
  where
    signals : Signals
    signals = signals_by plan events

    out : Levels
    out = out_at plan signals

-- in a quiet millisecond of a network that has come to it nothing is due
quiet-not_due : (net : NetState) (events : List Event) (t : ℕ) → IsWellFormed net.plan → AreSound net → IsOfPast net events (suc t)
    → is_busy net.plan events (suc t) ≡ false → IsDueAt net (suc t) → ⊥
quiet-not_due net events t well sound is quiet due = elim due [
  | inl element ↦
      inactive-not_due net.plan events (out_at net.plan (signals_by net.plan events)) element.0 t (slice_index_or net.elements element.0 (some_element net.plan))
      (quiet-inactive net.plan events t quiet element.0 element.1)
      (sound.elements element.0 (some_element net.plan) element.1) (is.elements element.0 (some_element net.plan) element.1) (element.2 (some_element net.plan))
  | inr line ↦
      quiet-line net.plan events line.line t line.state well quiet
      (subst (λ o. IfSome o (IsSoundLine net.plan line.line)) line.has (sound.lines line.line line.within))
      (subst (λ o. IfSome o (LineStands net.plan (signals_by net.plan events) (out_at net.plan (signals_by net.plan events)) line.line (suc t))) line.has (is.lines line.line line.within))
      line.due
]

-- a millisecond in which something is due is busy
due-here : (net : NetState) (events : List Event) (due : ℕ) → 0 < due → IsWellFormed net.plan → AreSound net → IsOfPast net events due
    → IsDueAt net due → is_busy net.plan events due ≡ true
due-here net events zero some well sound is due = absurd (omega (arith, some))
due-here net events (suc t) some well sound is due =
    true_from_ne_false (is_busy net.plan events (suc t)) (λ quiet. quiet-not_due net events t well sound is quiet due)

-- so is the first in which something is due, where no event comes before it
pub due-busy : (net : NetState) (events : List Event) (n due : ℕ) → IsWellFormed net.plan → AreSound net → IsOfPast net events n
    → 0 < net.next → n ≤ due → NoneFrom n due events → NoneDueBefore net due → IsDueAt net due
    → is_busy net.plan events due ≡ true
due-busy net events n due well sound is begun early none none_due here =
    let later = is.later in
    due-here net events due (omega (arith, begun, later, early)) well sound
    (stands-later net events n due well sound is early (λ never. absurd (omega (arith, begun, never))) none none_due) here
