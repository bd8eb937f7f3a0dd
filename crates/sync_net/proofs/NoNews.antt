-- Where no event touches an element, and the same is heard on its lines, nothing is told of it.
use Rattle.std.proofs.Common.{◌≡◌, ◌≢◌, ◌<◌, ◌⊎◌, inl, inr, ℕ, suc, Bool, true, false, List, [], ◌∷◌, map, length, Option, None, Some, slice_get, refl, ap, sym, ◌∙◌, zero-add, arith}
use Rattle.std.specs.Prelude.{nat_eq, slice_index_or, unwrap_or, if◌then◌else◌}
use Rattle.std.specs.List.{list_any, filter_map, range_with_len}
use Rattle.std.proofs.lemmas.Bool.Decides.{eqb_tells}
use Rattle.std.proofs.lemmas.List.{length-map, same_lists}
use Rattle.std.proofs.lemmas.List.FromFn.{length-map-range_with_len, get_or-map-range_with_len}
use Rattle.std.proofs.lemmas.Option.{slice_get_cases}
use Rattle.sync_text.proofs.Each.{each-at}
use Rattle.sync_text.specs.Each.{Each}
use Rattle.sync_ql.proofs.SameMoments.{input_moment, moment}
use Rattle.sync_ql.specs.Moment.{InputMoment, Moment, Settings, input_of}
use Rattle.sync_ql.specs.Told.{input_after, moment_after}
use Rattle.sync_topo.specs.declared.input.InputId.{InputId}
use Rattle.sync_topo.specs.declared.input.InputId.TheVariants.{Line, Source}
use Rattle.sync_topo.specs.declared.event.What.{What}
use Rattle.sync_topo.specs.declared.event.Event.{Event}
use Rattle.sync_topo.specs.Topology.{Topology}
use Rattle.sync_topo.specs.Lines.{receiver_of, inputs_of, IsNominated}
use Rattle.net_rules.specs.Signals.{Signals, signals_by, events_at, says_up, says_level, clears, command_to, up_at, said_at, source_level_before, source_level_at, planned_level}
use Rattle.net_rules.specs.Inputs.{IsInputOf}
use Rattle.net_rules.specs.History.{Levels, settings_of, heard, input_level, moment_at, element_past}
use Rattle.net_rules.specs.Settings.{input_by}
use Rattle.net_rules.specs.Activity.{touches}
use Rattle.net_rules.proofs.Lists.{map-at}
use Rattle.net_rules.proofs.InputLaws.{inputs-are}
use Rattle.net_rules.proofs.NetLaws.{input-at, many-inputs}
use Rattle.net_rules.proofs.EventLaws.{same-before, up-same}
use Rattle.net_rules.proofs.TouchLaws.{up-silent, level-silent, clear-silent, command-silent}
use Rattle.net_rules.proofs.IdleLaws.{IsUntouched, untouched-is, says-none}
use Rattle.sync_net.proofs.QuietObjects.{HasNoNews}

-- the level of a source stays where no event says that it is up or down, or has another level
pub source-stays : (plan : Topology) (events : List Event) (source t : ℕ)
    → Each (λ event. (event.at ≢ suc t) ⊎ (says_up (Source source) event.what ≡ None)) events
    → Each (λ event. (event.at ≢ suc t) ⊎ (says_level source event.what ≡ None)) events
    → source_level_before plan events source (suc (suc t)) ≡ source_level_before plan events source (suc t)
unfolding said_at
source-stays plan events source t ups levels = of (up_at events (Source source) (suc t)) refl (up-same events (Source source) t ups)
  where
    said : said_at plan events source (suc t) ≡ said_at plan events source t
    said = ap (λ o. unwrap_or o (planned_level plan source)) (same-before (says_level source) events (suc t) levels)

    of : (up : Bool) → up_at events (Source source) (suc t) ≡ up → up_at events (Source source) (suc t) ≡ up_at events (Source source) t
        → (if up_at events (Source source) (suc t) then said_at plan events source (suc t)
        else if up_at events (Source source) t then said_at plan events source t else source_level_before plan events source t)
        ≡ (if up_at events (Source source) t then said_at plan events source t else source_level_before plan events source t)
    of true is same = rw (is, sym same ∙ is) said
    of false is same = rw is refl

-- so does the level of an element's source where no event touches the element
source-untouched : (plan : Topology) (events : List Event) (source element t : ℕ) → IsInputOf plan element (Source source)
    → IsUntouched plan events element (suc t)
    → source_level_at plan events source (suc t) ≡ source_level_at plan events source t
unfolding source_level_at
source-untouched plan events source element t is untouched =
    source-stays plan events source t
    (says-none plan events element (suc t) (says_up (Source source)) (up-silent plan (Source source) element is) untouched)
    (says-none plan events element (suc t) (says_level source) (level-silent plan source element is) untouched)

-- events that don't touch an element give it no command and clear none of its inputs
kept-none : {A : Type 0} (plan : Topology) (events : List Event) (element t : ℕ) (says : What → Option A)
    → ((what : What) → touches plan element what ≡ false → says what ≡ None) → IsUntouched plan events element t
    → filter_map (λ event. says event.what) (events_at t events) ≡ []
kept-none plan [] element t says silent untouched = refl
kept-none {A = A} plan (event ∷ events) element t says silent untouched = by (eqb_tells event.at t) untouched.0 (kept-none plan events element t says silent untouched.1)
  where
    by : ((nat_eq event.at t ≡ true) × (event.at ≡ t)) ⊎ ((nat_eq event.at t ≡ false) × (event.at ≢ t))
        → (event.at ≢ t) ⊎ (touches plan element event.what ≡ false)
        → filter_map (λ e. says e.what) (events_at t events) ≡ []
        → filter_map (λ e. says e.what) (if nat_eq event.at t then event ∷ events_at t events else events_at t events) ≡ []
    by tells one rest = elim tells [
      | inr other ↦ rw (other.0) rest
      | inl here ↦ elim one [
        | inl other ↦ absurd (other here.1)
        | inr none ↦ rw (here.0, silent event.what none) rest
      ]
    ]

-- and so no test that only such events pass is passed
any-none : (plan : Topology) (events : List Event) (element t : ℕ) (test : What → Bool)
    → ((what : What) → touches plan element what ≡ false → test what ≡ false) → IsUntouched plan events element t
    → list_any (λ event. test event.what) (events_at t events) ≡ false
any-none plan [] element t test silent untouched = refl
any-none plan (event ∷ events) element t test silent untouched = by (eqb_tells event.at t) untouched.0 (any-none plan events element t test silent untouched.1)
  where
    by : ((nat_eq event.at t ≡ true) × (event.at ≡ t)) ⊎ ((nat_eq event.at t ≡ false) × (event.at ≢ t))
        → (event.at ≢ t) ⊎ (touches plan element event.what ≡ false)
        → list_any (λ e. test e.what) (events_at t events) ≡ false
        → list_any (λ e. test e.what) (if nat_eq event.at t then event ∷ events_at t events else events_at t events) ≡ false
    by tells one rest = elim tells [
      | inr other ↦ rw (other.0) rest
      | inl here ↦ elim one [
        | inl other ↦ absurd (other here.1)
        | inr none ↦ rw (here.0, silent event.what none) rest
      ]
    ]

-- the same is heard on the nominated lines into an element in two milliseconds
abbrev pub IsHeardSame : Topology → Signals → Levels → ℕ → ℕ → Type 0
IsHeardSame plan signals out element t = (line : ℕ) → IsNominated plan line → receiver_of plan line ≡ element
    → heard plan signals out line (suc t) ≡ heard plan signals out line t

-- an input of the element is as it was, and not cleared
input-stays : (plan : Topology) (events : List Event) (out : Levels) (element t : ℕ) → IsUntouched plan events element (suc t)
    → IsHeardSame plan (signals_by plan events) out element t → (input : InputId) → IsInputOf plan element input
    → input_by (signals_by plan events) (input_level (signals_by plan events) (heard plan (signals_by plan events) out)) (suc t) input
    ≡ record {
      signal = record { up = up_at events input t; clear = false };
      level = input_level (signals_by plan events) (heard plan (signals_by plan events) out) input t;
    }
input-stays plan events out element t untouched same (Line line) is =
    input_moment _ _ _ _ _ _
    (up-same events (Line line) t (says-none plan events element (suc t) (says_up (Line line)) (up-silent plan (Line line) element is) untouched))
    (any-none plan events element (suc t) (clears (Line line)) (clear-silent plan (Line line) element is) untouched)
    (same line.0 is.nominated is.of_element)
input-stays plan events out element t untouched same (Source source) is =
    input_moment _ _ _ _ _ _
    (up-same events (Source source) t (says-none plan events element (suc t) (says_up (Source source)) (up-silent plan (Source source) element is) untouched))
    (any-none plan events element (suc t) (clears (Source source)) (clear-silent plan (Source source) element is) untouched)
    (ap Some (source-untouched plan events source element t is untouched))

-- an input that nothing is told of, after a millisecond
input-quiet : (settings : Settings) (now : Moment) (before : List Moment) (i : ℕ) (input : InputMoment) → input_of i now ≡ input
    → input_after settings (now ∷ before) [] i ≡ record { signal = record { up = input.signal.up; clear = false }; level = input.level }
input-quiet settings now before i input is = ap (λ told. record { signal = record { up = told.signal.up; clear = false }; level = told.level }) is

-- the input at a place in a millisecond in which nothing is told
place-stays : (plan : Topology) (events : List Event) (out : Levels) (element t i : ℕ) (input : InputId)
    → slice_get (inputs_of plan element) i ≡ Some input → IsUntouched plan events element (suc t)
    → IsHeardSame plan (signals_by plan events) out element t
    → input_by (signals_by plan events) (input_level (signals_by plan events) (heard plan (signals_by plan events) out)) (suc t) input
    ≡ input_after (settings_of plan element) (element_past plan (signals_by plan events) out element (suc t)) [] i
place-stays plan events out element t i input at untouched same =
    let signals = signals_by plan events in
    let hears = heard plan signals out in
    input-stays plan events out element t untouched same input (each-at (IsInputOf plan element) (inputs_of plan element) i input (inputs-are plan element) at)
    ∙ sym (input-quiet (settings_of plan element) (moment_at plan signals hears element t) (element_past plan signals out element t) i
    (input_by signals (input_level signals hears) t input) (input-at plan signals hears element t i input at))

-- the inputs of the element
inputs-stay : (plan : Topology) (events : List Event) (out : Levels) (element t : ℕ) → IsUntouched plan events element (suc t)
    → IsHeardSame plan (signals_by plan events) out element t
    → map (input_by (signals_by plan events) (input_level (signals_by plan events) (heard plan (signals_by plan events) out)) (suc t)) (inputs_of plan element)
    ≡ map (input_after (settings_of plan element) (element_past plan (signals_by plan events) out element (suc t)) []) (range_with_len 0 (length (settings_of plan element).priorities))
inputs-stay plan events out element t untouched same =
    same_lists (map told (inputs_of plan element)) (map after (range_with_len 0 (length (settings_of plan element).priorities)))
    (length-map (inputs_of plan element) told
    ∙ sym (many-inputs plan element)
    ∙ sym (length-map-range_with_len after 0 (length (settings_of plan element).priorities)))
    (λ i d within. elim (slice_get_cases (inputs_of plan element) i).1 [
      | inl found ↦ there i d found.0 within found.2
      | inr past ↦ absurd (omega (arith, within, past.0, length-map (inputs_of plan element) told))
    ])
  where
    told : InputId → InputMoment
    told = input_by (signals_by plan events) (input_level (signals_by plan events) (heard plan (signals_by plan events) out)) (suc t)

    after : ℕ → InputMoment
    after = input_after (settings_of plan element) (element_past plan (signals_by plan events) out element (suc t)) []

    there : (i : ℕ) (d : InputMoment) (input : InputId) → i < length (map told (inputs_of plan element)) → slice_get (inputs_of plan element) i ≡ Some input
        → slice_index_or (map told (inputs_of plan element)) i d ≡ slice_index_or (map after (range_with_len 0 (length (settings_of plan element).priorities))) i d
    there i d input within at =
        map-at told (inputs_of plan element) i input d at
        ∙ place-stays plan events out element t i input at untouched same
        ∙ sym (get_or-map-range_with_len after 0 (length (settings_of plan element).priorities) i i d
        (omega (arith, within, length-map (inputs_of plan element) told, many-inputs plan element)) (zero-add i))

-- so nothing is told of the element
pub no-news-untouched : (plan : Topology) (events : List Event) (out : Levels) (element t : ℕ) → IsUntouched plan events element (suc t)
    → IsHeardSame plan (signals_by plan events) out element t
    → HasNoNews plan (signals_by plan events) out element t
unfolding moment_at moment_after
no-news-untouched plan events out element t untouched same =
    moment _ _ _ _ (inputs-stay plan events out element t untouched same)
    (kept-none plan events element (suc t) (command_to plan element) (command-silent plan element) untouched)

-- in a millisecond without events nothing is told of any element into which the same is heard
pub no-news : (plan : Topology) (events : List Event) (out : Levels) (element t : ℕ) → events_at (suc t) events ≡ []
    → IsHeardSame plan (signals_by plan events) out element t
    → HasNoNews plan (signals_by plan events) out element t
no-news plan events out element t none same =
    no-news-untouched plan events out element t
    (untouched-is plan events element (suc t) (ap (list_any (λ event. touches plan element event.what)) none)) same
