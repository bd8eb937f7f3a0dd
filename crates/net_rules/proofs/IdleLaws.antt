-- An element that isn't active gives what it gave, and a quiet millisecond changes nothing.
use Rattle.std.proofs.Common.{◌≡◌, ◌≢◌, ◌≤◌, ◌<◌, ◌+◌, ◌⊎◌, ℕ, zero, suc, Bool, true, false, not, ◌&&◌, ◌||◌, List, [], ◌∷◌, filter, length, Option, None, Some, refl, ap, sym, subst, ◌∙◌, inl, inr, arith}
use Rattle.std.specs.Prelude.{nat_eq, unwrap_or, if◌then◌else◌}
use Rattle.std.specs.List.{list_any, filter_map, range_with_len}
use Rattle.std.proofs.Math.Decide.{dec_lt}
use Rattle.std.proofs.lemmas.Bool.{or_parts}
use Rattle.std.proofs.lemmas.Bool.Decides.{eqb_tells}
use Rattle.sync_text.proofs.Each.{Each-map}
use Rattle.sync_text.specs.Each.{Each}
use Rattle.sync_ql.specs.declared.levels.Level.{Level}
use Rattle.sync_ql.specs.Messages.{is_same_level}
use Rattle.sync_ql.specs.Quiet.{IsSameOutput}
use Rattle.sync_ql.proofs.Delivered.{same-is}
use Rattle.sync_topo.specs.declared.input.InputId.{InputId}
use Rattle.sync_topo.specs.declared.input.InputId.TheVariants.{Line, Source}
use Rattle.sync_topo.specs.declared.event.What.{What}
use Rattle.sync_topo.specs.declared.event.Event.{Event}
use Rattle.sync_topo.specs.Topology.{Topology}
use Rattle.sync_topo.specs.Lines.{line_count, line_input, sender_of, receiver_of, element_of_source, inputs_of, is_nominated, IsNominated}
use Rattle.sync_topo.specs.WellFormed.{IsWellFormed}
use Rattle.sync_topo.proofs.LineLaws.{IsNominated-within}
use Rattle.net_rules.specs.Signals.{Signals, events_at, says_up, says_level, command_to, up_at, planned_level, said_at, source_level_before, source_level_at, signals_by}
use Rattle.net_rules.specs.Inputs.{IsInputOf}
use Rattle.net_rules.specs.History.{Levels, settings_of, heard, element_past, failed_by, Obeys, out_at}
use Rattle.net_rules.specs.Staying.{IsSameAt}
use Rattle.sync_text.proofs.Tests.{same-answer}
use Rattle.net_rules.specs.Activity.{touches, is_touched, failed_changes, heard_changes, is_active_in, is_active, news_arrives, is_busy}
use Rattle.net_rules.proofs.InputLaws.{each-input}
use Rattle.net_rules.proofs.EventLaws.{same-before, up-same}
use Rattle.net_rules.proofs.TouchLaws.{up-silent, level-silent, command-silent}
use Rattle.net_rules.proofs.QuietLaws.{InputStays, element-stays, taken-stays, sent-stays}
use Rattle.net_rules.proofs.PlanLaws.{sender-within, receiver-within}
use Rattle.net_rules.proofs.HistoryLaws.{line-input_of}

-- no event at a millisecond touches an element
abbrev pub IsUntouched : Topology → List Event → ℕ → ℕ → Type 0
IsUntouched plan events element t = Each (λ event. (event.at ≢ t) ⊎ (touches plan element event.what ≡ false)) events

none_passes : {A : Type 0} (p : A → Bool) (xs : List A) → list_any p xs ≡ false → Each (λ x. p x ≡ false) xs
none_passes p [] none = tt
none_passes p (x ∷ xs) none = let both = or_parts (p x) (list_any p xs) none in (both.0, none_passes p xs both.1)

pub untouched-is : (plan : Topology) (events : List Event) (element t : ℕ) → is_touched plan events element t ≡ false → IsUntouched plan events element t
untouched-is plan [] element t none = tt
untouched-is plan (event ∷ events) element t none = by (eqb_tells event.at t) none (untouched-is plan events element t)
  where
    by : ((nat_eq event.at t ≡ true) × (event.at ≡ t)) ⊎ ((nat_eq event.at t ≡ false) × (event.at ≢ t))
        → list_any (λ e. touches plan element e.what) (if nat_eq event.at t then event ∷ filter (λ e. nat_eq e.at t) events else filter (λ e. nat_eq e.at t) events) ≡ false
        → (list_any (λ e. touches plan element e.what) (filter (λ e. nat_eq e.at t) events) ≡ false → IsUntouched plan events element t)
        → IsUntouched plan (event ∷ events) element t
    by tells none rest = elim tells [
      | inl here ↦
          let parts = or_parts (touches plan element event.what) (list_any (λ e. touches plan element e.what) (filter (λ e. nat_eq e.at t) events)) (rw (here.0) at none) in
          (inr parts.0, rest parts.1)
      | inr other ↦ (inl other.1, rest (rw (other.0) at none))
    ]

pub says-none : {A : Type 0} (plan : Topology) (events : List Event) (element t : ℕ) (says : What → Option A)
    → ((what : What) → touches plan element what ≡ false → says what ≡ None) → IsUntouched plan events element t
    → Each (λ event. (event.at ≢ t) ⊎ (says event.what ≡ None)) events
says-none plan events element t says silent untouched =
    Each-map (λ event. (event.at ≢ t) ⊎ (touches plan element event.what ≡ false)) (λ event. (event.at ≢ t) ⊎ (says event.what ≡ None))
    (λ event one. elim one [ inl other ↦ inl other | inr none ↦ inr (silent event.what none) ]) events untouched

-- a source of it has the level that it had
level-stays : (plan : Topology) (events : List Event) (source t : ℕ) → IsInputOf plan (element_of_source plan source) (Source source) → IsUntouched plan events (element_of_source plan source) (suc t)
    → source_level_at plan events source (suc t) ≡ source_level_at plan events source t
unfolding source_level_at said_at
level-stays plan events source t own untouched =
    of (up_at events (Source source) (suc t)) refl
    (up-same events (Source source) t (says-none plan events (element_of_source plan source) (suc t) (says_up (Source source)) (up-silent plan (Source source) (element_of_source plan source) own) untouched))
  where
    said : said_at plan events source (suc t) ≡ said_at plan events source t
    said = ap (λ o. unwrap_or o (planned_level plan source))
        (same-before (says_level source) events (suc t) (says-none plan events (element_of_source plan source) (suc t) (says_level source) (level-silent plan source (element_of_source plan source) own) untouched))

    of : (up : Bool) → up_at events (Source source) (suc t) ≡ up → up_at events (Source source) (suc t) ≡ up_at events (Source source) t
        → (if up_at events (Source source) (suc t) then said_at plan events source (suc t)
        else if up_at events (Source source) t then said_at plan events source t else source_level_before plan events source t)
        ≡ (if up_at events (Source source) t then said_at plan events source t else source_level_before plan events source t)
    of true is same = rw (is, sym same ∙ is) said
    of false is same = rw is refl

no-commands : (plan : Topology) (events : List Event) (element t : ℕ) → IsUntouched plan events element t
    → filter_map (λ event. command_to plan element event.what) (events_at t events) ≡ []
no-commands plan [] element t untouched = refl
no-commands plan (event ∷ events) element t untouched = by (eqb_tells event.at t) (no-commands plan events element t untouched.1)
  where
    by : ((nat_eq event.at t ≡ true) × (event.at ≡ t)) ⊎ ((nat_eq event.at t ≡ false) × (event.at ≢ t))
        → filter_map (λ e. command_to plan element e.what) (events_at t events) ≡ []
        → filter_map (λ e. command_to plan element e.what) (if nat_eq event.at t then event ∷ events_at t events else events_at t events) ≡ []
    by tells rest = elim tells [
      | inr other ↦ rw (other.0) rest
      | inl here ↦ elim untouched.0 [
        | inl other ↦ absurd (other here.1)
        | inr none ↦ rw (here.0, command-silent plan element event.what none) rest
      ]
    ]

-- an input that isn't failed or heard otherwise than before
pub record IsIdle (plan : Topology) (signals : Signals) (out : Levels) (input : InputId) (t : ℕ) : Type 0 where
  pub failed : failed_changes plan signals input (suc t) ≡ false
  pub heard_same : heard_changes plan signals out input (suc t) ≡ false

pub same-heard : (a b : Option Level) → not (is_same_level a b) ≡ false → a ≡ b
same-heard a b none = same-is a b (of (is_same_level a b) none)
  where
    of : (same : Bool) → not same ≡ false → same ≡ true
    of true none = refl
    of false none = cc

idle-stays : (plan : Topology) (events : List Event) (out : Levels) (element t : ℕ) → IsUntouched plan events element (suc t)
    → (input : InputId) → IsInputOf plan element input → IsIdle plan (signals_by plan events) out input t
    → InputStays plan (signals_by plan events) out input t
unfolding InputStays
idle-stays plan events out element t untouched (Line line) is idle =
    inl (
      same-heard (heard plan (signals_by plan events) out line.0 (suc t)) (heard plan (signals_by plan events) out line.0 t) idle.heard_same,
      same-answer (failed_by plan (signals_by plan events) (Line line) (suc t)) (failed_by plan (signals_by plan events) (Line line) t) idle.failed,
    )
idle-stays plan events out element t untouched (Source source) is idle =
    inl (
      ap Some (level-stays plan events source t (record { has = is.has; nominated = is.nominated; of_element = refl }) (subst (λ e. IsUntouched plan events e (suc t)) (sym is.of_element) untouched)),
      same-answer (failed_by plan (signals_by plan events) (Source source) (suc t)) (failed_by plan (signals_by plan events) (Source source) t) idle.failed,
    )

-- an element that isn't active gives the same
inactive-idle : (plan : Topology) (events : List Event) (signals : Signals) (out : Levels) (element t : ℕ)
    → list_any (λ input. failed_changes plan signals input (suc t) || heard_changes plan signals out input (suc t)) (inputs_of plan element) ≡ false
    → (input : InputId) → IsInputOf plan element input → IsIdle plan signals out input t
inactive-idle plan events signals out element t none =
    each-input (λ input. IsIdle plan signals out input t) plan element
    (Each-map (λ input. (failed_changes plan signals input (suc t) || heard_changes plan signals out input (suc t)) ≡ false) (λ input. IsIdle plan signals out input t)
    (λ input no_change. let both = or_parts (failed_changes plan signals input (suc t)) (heard_changes plan signals out input (suc t)) no_change in record { failed = both.0; heard_same = both.1 })
    (inputs_of plan element)
    (none_passes (λ input. failed_changes plan signals input (suc t) || heard_changes plan signals out input (suc t)) (inputs_of plan element) none))

pub record IsInactive (plan : Topology) (events : List Event) (out : Levels) (element t : ℕ) : Type 0 where
  pub untouched : IsUntouched plan events element (suc t)
  pub idle : (input : InputId) → IsInputOf plan element input → IsIdle plan (signals_by plan events) out input t

pub inactive-is : (plan : Topology) (events : List Event) (out : Levels) (element t : ℕ) → is_active_in plan events (signals_by plan events) out element (suc t) ≡ false
    → IsInactive plan events out element t
inactive-is plan events out element t none =
    let parts = or_parts (nat_eq (suc t) 0 || is_touched plan events element (suc t)) (list_any (λ input. failed_changes plan (signals_by plan events) input (suc t) || heard_changes plan (signals_by plan events) out input (suc t)) (inputs_of plan element)) none in
    record {
      untouched = untouched-is plan events element (suc t) (or_parts (nat_eq (suc t) 0) (is_touched plan events element (suc t)) parts.0).1;
      idle = inactive-idle plan events (signals_by plan events) out element t parts.1;
    }

pub inactive-same : (plan : Topology) (events : List Event) (out : Levels) (element t : ℕ) → IsInactive plan events out element t
    → IsSameOutput (settings_of plan element) (element_past plan (signals_by plan events) out element (suc t)) (element_past plan (signals_by plan events) out element (suc (suc t)))
inactive-same plan events out element t inactive =
    element-stays plan (signals_by plan events) out t element (no-commands plan events element (suc t) inactive.untouched)
    (λ input is. idle-stays plan events out element t inactive.untouched input is (inactive.idle input is))

-- in a quiet millisecond no element is active
none_active : (plan : Topology) (events : List Event) (t : ℕ)
    → list_any (λ element. is_active plan events element t) (range_with_len 0 (length plan.elements)) ≡ false
    → (element : ℕ) → element < length plan.elements → is_active plan events element t ≡ false
none_active plan events t none element within =
    in_range (λ e. is_active plan events e t ≡ false) 0 (length plan.elements) (none_passes (λ e. is_active plan events e t) (range_with_len 0 (length plan.elements)) none) element (omega arith) (omega (arith, within))
  where
    in_range : (P : ℕ → Type 0) (from n : ℕ) → Each P (range_with_len from n) → (k : ℕ) → from ≤ k → k < from + n → P k
    in_range P from zero each k low high = absurd (omega (arith, low, high))
    in_range P from (suc n) each k low high = elim (dec_lt from k) [
      | yes later ↦ in_range P (from + 1) n each.1 k (omega (arith, later)) (omega (arith, high))
      | no here ↦ let same : from ≡ k = omega (arith, here, low) in subst P same each.0
    ]

-- so it changes nothing: each element gives and takes the same, and each line is sent the same
pub quiet-same : (plan : Topology) (events : List Event) (t : ℕ) → IsWellFormed plan → Obeys plan (signals_by plan events) (out_at plan (signals_by plan events))
    → ((element : ℕ) → element < length plan.elements → IsInactive plan events (out_at plan (signals_by plan events)) element t)
    → IsSameAt plan (signals_by plan events) (out_at plan (signals_by plan events)) t (suc t)
quiet-same plan events t well obeys inactive =
    let out : Levels = out_at plan (signals_by plan events) in
    let output : (element : ℕ) → element < length plan.elements → IsSameOutput (settings_of plan element) (element_past plan (signals_by plan events) out element (suc t)) (element_past plan (signals_by plan events) out element (suc (suc t))) =
    λ element within. inactive-same plan events out element t (inactive element within) in
    record {
      output = output;
      taken = λ element within. taken-stays plan (signals_by plan events) out t (suc t) element (output element within);
      sent = λ line within. sent-stays plan (signals_by plan events) out t (suc t) line obeys within (output (sender_of plan line) (sender-within plan well line within));
    }

-- and on each nominated line the same is heard
line-idle : (plan : Topology) (events : List Event) (line t : ℕ) → IsNominated plan line
    → IsInactive plan events (out_at plan (signals_by plan events)) (receiver_of plan line) t
    → heard plan (signals_by plan events) (out_at plan (signals_by plan events)) line (suc t) ≡ heard plan (signals_by plan events) (out_at plan (signals_by plan events)) line t
line-idle plan events line t nominated inactive =
    same-heard (heard plan (signals_by plan events) (out_at plan (signals_by plan events)) line (suc t)) (heard plan (signals_by plan events) (out_at plan (signals_by plan events)) line t)
    (inactive.idle (line_input line) (line-input_of plan line nominated)).heard_same

pub quiet-inactive : (plan : Topology) (events : List Event) (t : ℕ) → is_busy plan events (suc t) ≡ false
    → (element : ℕ) → element < length plan.elements → IsInactive plan events (out_at plan (signals_by plan events)) element t
quiet-inactive plan events t quiet element within =
    let parts = or_parts (list_any (λ event. nat_eq event.at (suc t)) events || list_any (λ e. is_active plan events e (suc t)) (range_with_len 0 (length plan.elements)))
    (list_any (λ line. is_nominated plan line && news_arrives plan (signals_by plan events) (out_at plan (signals_by plan events)) line (suc t)) (range_with_len 0 (line_count plan))) quiet in
    inactive-is plan events (out_at plan (signals_by plan events)) element t
    (none_active plan events (suc t) (or_parts (list_any (λ event. nat_eq event.at (suc t)) events) (list_any (λ e. is_active plan events e (suc t)) (range_with_len 0 (length plan.elements))) parts.0).1 element within)

pub quiet-heard : (plan : Topology) (events : List Event) (t line : ℕ) → IsWellFormed plan → is_busy plan events (suc t) ≡ false → IsNominated plan line
    → heard plan (signals_by plan events) (out_at plan (signals_by plan events)) line (suc t) ≡ heard plan (signals_by plan events) (out_at plan (signals_by plan events)) line t
quiet-heard plan events t line well quiet nominated =
    line-idle plan events line t nominated (quiet-inactive plan events t quiet (receiver_of plan line) (receiver-within plan well line (IsNominated-within plan line nominated)))
