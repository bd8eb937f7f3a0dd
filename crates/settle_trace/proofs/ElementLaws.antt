-- Whether the inputs of an element are steady, by what it answers.
use Rattle.std.proofs.Common.{◌≡◌, ◌<◌, ℕ, suc, ◌-◌, Bool, true, false, not, List, length, None, IsNone, refl, ap, sym, subst, ◌∙◌, inl, inr, arith}
use Rattle.std.specs.Prelude.{IsTrue, ◌↔◌}
use Rattle.std.proofs.lemmas.Bool.{true≢false}
use Rattle.std.proofs.lemmas.Option.{none-some, slice_get_within, slice_get_cases}
use Rattle.sync_text.proofs.Each.{each-at}
use Rattle.sync_ql.specs.Condition.{is_up, failed_at, left_at, condition_of, condition_at}
use Rattle.sync_ql.specs.Moment.{Moment, signals_of}
use Rattle.sync_ql.specs.Quiet.{IsElementDue}
use Rattle.sync_element.specs.ElementState.{ElementState}
use Rattle.sync_element.specs.StandsFor as Element
use Rattle.sync_element.specs.Due.{left_of, left_in, NoneEnds}
use Rattle.sync_topo.specs.Topology.{Topology}
use Rattle.sync_topo.specs.Lines.{inputs_of}
use Rattle.net_rules.specs.Signals.{Signals}
use Rattle.net_rules.specs.History.{Levels, settings_of, element_past}
use Rattle.net_rules.specs.Settled.{IsSteady}
use Rattle.net_rules.proofs.NetLaws.{many-inputs}
use Rattle.sync_net.specs.Standing.{ElementStands}
use Rattle.sync_net.proofs.SteadyElements.{each-by, up-now, failed-now}
use Rattle.settle_trace.specs.private.Resting.{AreSteady}

-- no time runs: the condition is good or failed
steady-by : (up failed : Bool) (left : ℕ) → left_of (condition_of up failed left) ≡ None → failed ≡ not up
steady-by true true left none = absurd (none-some left (sym none))
steady-by true false left none = refl
steady-by false true left none = refl
steady-by false false left none = absurd (none-some left (sym none))

by-steady : (up failed : Bool) (left : ℕ) → failed ≡ not up → left_of (condition_of up failed left) ≡ None
by-steady true true left is = absurd (true≢false is)
by-steady true false left is = refl
by-steady false true left is = refl
by-steady false false left is = absurd (true≢false (sym is))

module _ (plan : Topology) (signals : Signals) (out : Levels) (place t : ℕ) (element : ElementState)
    (stands : ElementStands plan signals out place (suc t) element)
    (due : (past : List Moment) → Element.StandsFor element past → IsElementDue element.settings past element.due) where
  abbrev pub last : List Moment
  last = element_past plan signals out place element.next

  -- no condition ends exactly where each input is steady
  pub none-steady : NoneEnds element.settings last → AreSteady plan signals t place
  unfolding condition_at
  none-steady none =
      each-by (λ input. IsSteady plan signals input t) (inputs_of plan place) (λ i input at.
      let within : i < length (settings_of plan place).priorities =
      omega (arith, many-inputs plan place, slice_get_within (inputs_of plan place) i input at) in
      let ends : left_in (settings_of plan place) last i ≡ None =
      subst (λ settings. left_in settings last i ≡ None) stands.settings (none i (subst (λ settings. i < length settings.priorities) (sym stands.settings) within)) in
      sym (failed-now plan signals out place t element stands due i input at within)
      ∙ steady-by (is_up (signals_of i last)) (failed_at (settings_of plan place).timers (signals_of i last)) (left_at (settings_of plan place).timers (signals_of i last)) ends
      ∙ ap not (up-now plan signals out place t element stands due i input at within))

  pub steady-none : AreSteady plan signals t place → NoneEnds element.settings last
  unfolding condition_at
  steady-none steady i inside =
      let within : i < length (settings_of plan place).priorities = subst (λ settings. i < length settings.priorities) stands.settings inside in
      subst (λ settings. left_in settings last i ≡ None) (sym stands.settings)
      (elim (slice_get_cases (inputs_of plan place) i).1 [
        | inl there ↦
            by-steady (is_up (signals_of i last)) (failed_at (settings_of plan place).timers (signals_of i last)) (left_at (settings_of plan place).timers (signals_of i last))
            (failed-now plan signals out place t element stands due i there.0 there.2 within
            ∙ each-at (λ input. IsSteady plan signals input t) (inputs_of plan place) i there.0 steady there.2
            ∙ sym (ap not (up-now plan signals out place t element stands due i there.0 there.2 within)))
        | inr past ↦ absurd (omega (arith, within, past.0, many-inputs plan place))
      ])

-- so the answer that none ends is that all are steady
pub element-answers : (plan : Topology) (signals : Signals) (out : Levels) (place n : ℕ) (element : ElementState) (answer : Bool) → 0 < n
    → ElementStands plan signals out place n element → (IsTrue answer ↔ IsNone element.due)
    → ((past : List Moment) → Element.StandsFor element past → IsNone element.due ↔ NoneEnds element.settings past)
    → ((past : List Moment) → Element.StandsFor element past → IsElementDue element.settings past element.due)
    → (IsTrue answer → AreSteady plan signals (n - 1) place) × (AreSteady plan signals (n - 1) place → IsTrue answer)
element-answers plan signals out place n element answer begun is value ends due =
    let after : n ≡ suc (n - 1) = omega (arith, begun) in
    let stands : ElementStands plan signals out place (suc (n - 1)) element = subst (λ k. ElementStands plan signals out place k element) after is in
    let past : List Moment = element_past plan signals out place element.next in (
      λ says. none-steady plan signals out place (n - 1) element stands due ((ends past stands.stands).0 (value.0 says)),
      λ steady. value.1 ((ends past stands.stands).1 (steady-none plan signals out place (n - 1) element stands due steady)),
    )
