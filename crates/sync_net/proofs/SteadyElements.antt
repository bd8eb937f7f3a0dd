-- Whether the inputs of an element are steady, by its last step.
use Rattle.std.proofs.Common.{◌≡◌, ◌≤◌, ◌<◌, ◌+◌, ◌-◌, ℕ, zero, suc, Bool, true, false, not, List, [], ◌∷◌, length, slice_get, Some, refl, ap, sym, subst, ◌∙◌, arith}
use Rattle.std.specs.Prelude.{nat_lt, if◌then◌else◌, IsTrue}
use Rattle.std.proofs.lemmas.Bool.{le-ltb, lt-ltb}
use Rattle.std.proofs.lemmas.Option.{slice_get_within}
use Rattle.sync_ql.proofs.Staying.{same_until_due}
use Rattle.sync_text.specs.Each.{Each}
use Rattle.net_rules.proofs.OrderLaws.{input-within}
use Rattle.sync_ql.specs.Condition.{is_up, down_for, up_for, failed_at}
use Rattle.sync_ql.specs.Moment.{Moment, Settings, signals_of}
use Rattle.sync_ql.specs.Told.{quiet_moments, moments_until}
use Rattle.sync_ql.specs.Quiet.{IsSameFailed, IsElementDue}
use Rattle.sync_ql.proofs.Delivered.{length-past_of}
use Rattle.sync_ql.proofs.QuietMoments.{input_of-moment_after}
use Rattle.sync_element.specs.ElementState.{ElementState}
use Rattle.sync_element.specs.StandsFor as Element
use Rattle.sync_topo.specs.declared.input.InputId.{InputId}
use Rattle.sync_topo.specs.Topology.{Topology}
use Rattle.sync_topo.specs.Lines.{IsInput, is_nominated_input, inputs_of, element_of}
use Rattle.sync_topo.specs.WellFormed.{IsWellFormed}
use Rattle.net_rules.specs.Signals.{Signals}
use Rattle.net_rules.specs.History.{Levels, settings_of, heard, moment_at, element_past, failed_by}
use Rattle.net_rules.specs.Settled.{IsSteady}
use Rattle.net_rules.proofs.InputLaws.{each-input}
use Rattle.net_rules.proofs.NetLaws.{signals-at, failed-at, many-inputs}
use Rattle.sync_net.specs.Standing.{ElementStands}
use Rattle.net_words.proofs.DistinctInputs.{input-of}

-- all inputs are steady where those of each element are
pub all-steady : (plan : Topology) (signals : Signals) (t : ℕ) → IsWellFormed plan
    → ((k : ℕ) → k < length plan.elements → Each (λ input. IsSteady plan signals input t) (inputs_of plan k))
    → (input : InputId) → IsInput plan input → IsTrue (is_nominated_input plan input) → IsSteady plan signals input t
all-steady plan signals t well each input has nominated =
    each-input (λ i. IsSteady plan signals i t) plan (element_of plan input) (each (element_of plan input) (input-within plan well input has)) input
    (record { has = has; nominated = nominated; of_element = refl })

-- what holds at each place
pub each-by : {A : Type 0} (P : A → Type 0) (xs : List A) → ((i : ℕ) (x : A) → slice_get xs i ≡ Some x → P x) → Each P xs
each-by P [] holds = tt
each-by P (x ∷ xs) holds = (holds 0 x refl, each-by P xs (λ i y at. holds (suc i) y at))

-- while nothing is told an input stays up or down
up-quiet : (settings : Settings) (k i : ℕ) (past : List Moment) → i < length settings.priorities
    → is_up (signals_of i (quiet_moments settings k past)) ≡ is_up (signals_of i past)
up-quiet settings zero i past within = refl
up-quiet settings (suc k) i past within =
    ap (λ input. input.signal.up) (input_of-moment_after settings (quiet_moments settings k past) [] i within)
    ∙ up-quiet settings k i past within

-- so it is up or down ever longer, until it isn't failed, or is
up-quietly : (settings : Settings) (k i : ℕ) (past : List Moment) → i < length settings.priorities → is_up (signals_of i past) ≡ true
    → k ≤ up_for (signals_of i (quiet_moments settings k past))
up-quietly settings zero i past within up = omega arith
up-quietly settings (suc k) i past within up =
    rw (up-quiet settings (suc k) i past within ∙ up) (omega (arith, up-quietly settings k i past within up))

down-quietly : (settings : Settings) (k i : ℕ) (past : List Moment) → i < length settings.priorities → is_up (signals_of i past) ≡ false
    → k ≤ down_for (signals_of i (quiet_moments settings k past))
down-quietly settings zero i past within down = omega arith
down-quietly settings (suc k) i past within down =
    rw (up-quiet settings (suc k) i past within ∙ down) (omega (arith, down-quietly settings k i past within down))

good-quietly : (settings : Settings) (k i : ℕ) (past : List Moment) → i < length settings.priorities → is_up (signals_of i past) ≡ true
    → settings.timers.wtr ≤ k → failed_at settings.timers (signals_of i (quiet_moments settings (suc k) past)) ≡ false
unfolding failed_at
good-quietly settings k i past within up long =
    rw (
      ap (λ b. nat_lt settings.timers.holdoff (if b then 0 else down_for (signals_of i (quiet_moments settings k past)) + 1)) (up-quiet settings (suc k) i past within ∙ up)
          ∙ le-ltb settings.timers.holdoff 0 (omega arith),
      lt-ltb settings.timers.wtr (up_for (signals_of i (quiet_moments settings (suc k) past))) (omega (arith, long, up-quietly settings (suc k) i past within up)),
    ) refl

failed-quietly : (settings : Settings) (k i : ℕ) (past : List Moment) → i < length settings.priorities → is_up (signals_of i past) ≡ false
    → settings.timers.holdoff ≤ k → failed_at settings.timers (signals_of i (quiet_moments settings (suc k) past)) ≡ true
unfolding failed_at
failed-quietly settings k i past within down long =
    rw (lt-ltb settings.timers.holdoff (down_for (signals_of i (quiet_moments settings (suc k) past))) (omega (arith, long, down-quietly settings (suc k) i past within down))) refl

-- where no input would fail or be restored, each is failed just where it is down
steady-quietly : (settings : Settings) (past : List Moment) (i : ℕ) → i < length settings.priorities
    → ((n : ℕ) → length past ≤ n → IsSameFailed settings past (moments_until settings n past))
    → failed_at settings.timers (signals_of i past) ≡ not (is_up (signals_of i past))
steady-quietly settings past i within never = by (is_up (signals_of i past)) refl
  where
    later : (k : ℕ) → failed_at settings.timers (signals_of i (quiet_moments settings k past)) ≡ failed_at settings.timers (signals_of i past)
    later k =
        let e : (k + length past) - length past ≡ k = omega arith in
        ap (λ n. failed_at settings.timers (signals_of i (quiet_moments settings n past))) (sym e) ∙ never (k + length past) (omega arith) i within

    by : (up : Bool) → is_up (signals_of i past) ≡ up → failed_at settings.timers (signals_of i past) ≡ not (is_up (signals_of i past))
    by true is = sym (later (suc settings.timers.wtr)) ∙ good-quietly settings settings.timers.wtr i past within is (omega arith) ∙ sym (ap not is)
    by false is = sym (later (suc settings.timers.holdoff)) ∙ failed-quietly settings settings.timers.holdoff i past within is (omega arith) ∙ sym (ap not is)

module _ (plan : Topology) (signals : Signals) (out : Levels) (place t : ℕ) (element : ElementState)
    (stands : ElementStands plan signals out place (suc t) element)
    (due : (past : List Moment) → Element.StandsFor element past → IsElementDue element.settings past element.due) where
  abbrev pub last : List Moment
  last = element_past plan signals out place element.next

  -- up and failed at the last step are up and failed now
  pub up-now : (i : ℕ) (input : InputId) → slice_get (inputs_of plan place) i ≡ Some input → i < length (settings_of plan place).priorities
      → is_up (signals_of i last) ≡ signals.up input t
  up-now i input at within =
      sym (up-quiet (settings_of plan place) (suc t - length last) i last within)
      ∙ sym (ap (λ past. is_up (signals_of i past)) stands.quiet)
      ∙ ap is_up (signals-at plan signals (heard plan signals out) place (suc t) i input at)

  pub failed-now : (i : ℕ) (input : InputId) → slice_get (inputs_of plan place) i ≡ Some input → i < length (settings_of plan place).priorities
      → failed_at (settings_of plan place).timers (signals_of i last) ≡ failed_by plan signals input t
  failed-now i input at within =
      let long = length-past_of (moment_at plan signals (heard plan signals out) place) element.next in
      let later = stands.in_time.later in
      let changes : IsElementDue (settings_of plan place) last element.due =
      subst (λ settings. IsElementDue settings last element.due) stands.settings (due last stands.stands) in
      sym (same_until_due (settings_of plan place) last element.due (suc t) changes (omega (arith, long, later)) stands.in_time.until_due i within)
      ∙ sym (ap (λ past. failed_at (settings_of plan place).timers (signals_of i past)) stands.quiet)
      ∙ failed-at plan signals out place t i input at (input-of plan place i input at).of_element

  -- where nothing is due of the element, its inputs are steady
  pub steady-idle : ((n : ℕ) → length last ≤ n → IsSameFailed (settings_of plan place) last (moments_until (settings_of plan place) n last))
      → Each (λ input. IsSteady plan signals input t) (inputs_of plan place)
  steady-idle never =
      each-by (λ input. IsSteady plan signals input t) (inputs_of plan place) (λ i input at.
      let within : i < length (settings_of plan place).priorities =
      omega (arith, many-inputs plan place, slice_get_within (inputs_of plan place) i input at) in
      sym (failed-now i input at within)
      ∙ steady-quietly (settings_of plan place) last i within never
      ∙ ap not (up-now i input at within))
