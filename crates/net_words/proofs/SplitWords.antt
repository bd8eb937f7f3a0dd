-- What the events before the next millisecond say, by those before this one and those in it.
use Rattle.std.proofs.Common.{◌≡◌, ◌≤◌, ◌<◌, ◌+◌, ℕ, zero, suc, true, List, [], ◌∷◌, length, Option, None, Some, refl, ap, sym, subst, ◌∙◌, arith}
use Rattle.std.specs.Prelude.{unwrap_or, slice_index_or}
use Rattle.std.specs.Option.{option_or}
use Rattle.std.proofs.Math.Decide.{dec_lt}
use Rattle.std.proofs.lemmas.Bool.{le-ltb, lt-ltb, ne_eqb, eq-eqb}
use Rattle.sync_text.specs.Each.{Each}
use Rattle.net_rules.proofs.EventLaws.{none-before}
use Rattle.sync_text.proofs.Options.{option_or-assoc, unwrap_or-option_or}
use Rattle.sync_ql.specs.Pasts.{past_of}
use Rattle.sync_ql.specs.Condition.{is_up}
use Rattle.sync_topo.specs.declared.input.InputId.{InputId}
use Rattle.sync_topo.specs.declared.event.What.{What}
use Rattle.sync_topo.specs.declared.event.Event.{Event}
use Rattle.sync_topo.specs.Topology.{Topology}
use Rattle.sync_topo.specs.Events.{IsInOrder}
use Rattle.net_rules.specs.Signals.{events_before, events_at, last_word, says_up as says_input_up, signals_by, up_at}
use Rattle.net_rules.specs.Settings.{signal_at}
use Rattle.net_words.specs.Before.{up_before}

-- what follows a list in order is in order
in-order-tail : (event : Event) (events : List Event) → IsInOrder (event ∷ events) → IsInOrder events
in-order-tail event events ordered k d within =
    let more : suc k + 1 ≡ suc (k + 1) = omega arith in
    subst (λ m. (slice_index_or (event ∷ events) (suc k) d).at ≤ (slice_index_or (event ∷ events) m d).at) more
    (ordered (suc k) d (omega (arith, within)))

-- no event of a list in order is before its first one
not-before : (bound : ℕ) (events : List Event) → ((d : Event) → 0 < length events → bound ≤ (slice_index_or events 0 d).at) → IsInOrder events
    → Each (λ event. bound ≤ event.at) events
not-before bound [] first ordered = tt
not-before bound (event ∷ events) first ordered =
    let here : bound ≤ event.at = first event (omega arith) in (
      here,
      not-before bound events (λ d some. let next : event.at ≤ (slice_index_or events 0 d).at = ordered 0 d (omega (arith, some)) in omega (arith, here, next))
          (in-order-tail event events ordered),
    )

each-late : (events : List Event) → Each (λ event. 0 ≤ event.at) events
each-late [] = tt
each-late (event ∷ events) = (omega arith, each-late events)

-- before millisecond 0 there is no event
pub none-before-0 : (events : List Event) → events_before 0 events ≡ []
none-before-0 events = none-before 0 events (each-late events)

or-none : {A : Type 0} (a b : Option A) → b ≡ None → option_or a b ≡ a
or-none None b none = none
or-none (Some x) b none = refl

-- so it is with one event more in front
split-step : {A : Type 0} (says : What → Option A) (n : ℕ) (event : Event) (events : List Event) → IsInOrder (event ∷ events)
    → last_word says (events_before (suc n) events) ≡ option_or (last_word says (events_at n events)) (last_word says (events_before n events))
    → last_word says (events_before (suc n) (event ∷ events)) ≡ option_or (last_word says (events_at n (event ∷ events))) (last_word says (events_before n (event ∷ events)))
split-step says n event events ordered rest = elim (dec_lt event.at n) [
  | yes before ↦
      rw (lt-ltb event.at (suc n) (omega (arith, before)), lt-ltb event.at n before, ne_eqb event.at n (λ same. omega (arith, same, before)))
      (ap (λ o. option_or o (says event.what)) rest
      ∙ option_or-assoc (last_word says (events_at n events)) (last_word says (events_before n events)) (says event.what))
  | no not_early ↦ elim (dec_lt n event.at) [
    | yes after ↦
        rw (le-ltb event.at (suc n) (omega (arith, after)), le-ltb event.at n (omega (arith, after)), ne_eqb event.at n (λ same. omega (arith, same, after)))
        rest
    | no not_late ↦
        let here : event.at ≡ n = omega (arith, not_early, not_late) in
        rw (lt-ltb event.at (suc n) (omega (arith, here)), le-ltb event.at n (omega (arith, here)), eq-eqb event.at n here)
        (ap (λ o. option_or o (says event.what)) (rest ∙ or-none (last_word says (events_at n events)) (last_word says (events_before n events)) (silent here))
        ∙ sym (or-none (option_or (last_word says (events_at n events)) (says event.what)) (last_word says (events_before n events)) (silent here)))
  ]
]
  where
    silent : event.at ≡ n → last_word says (events_before n events) ≡ None
    silent here =
        ap (last_word says) (none-before n events
        (not-before n events (λ d some. let next : event.at ≤ (slice_index_or events 0 d).at = ordered 0 d (omega (arith, some)) in omega (arith, here, next))
        (in-order-tail event events ordered)))

-- the last word before the next millisecond is that of this millisecond, or else the one before it
pub until-split : {A : Type 0} (says : What → Option A) (n : ℕ) (all : List Event) → IsInOrder all
    → last_word says (events_before (suc n) all) ≡ option_or (last_word says (events_at n all)) (last_word says (events_before n all))
until-split says n [] ordered = refl
until-split says n (event ∷ events) ordered =
    split-step says n event events ordered (until-split says n events (in-order-tail event events ordered))

-- what is so before the next millisecond is what its events say, or else what was before it
pub word-until : {A : Type 0} (says : What → Option A) (first : A) (all events : List Event) (n : ℕ) → IsInOrder all → events_at n all ≡ events
    → unwrap_or (last_word says (events_before (suc n) all)) first
    ≡ unwrap_or (last_word says events) (unwrap_or (last_word says (events_before n all)) first)
word-until says first all events n ordered at =
    ap (λ o. unwrap_or o first) (until-split says n all ordered)
    ∙ unwrap_or-option_or (last_word says (events_at n all)) (last_word says (events_before n all)) first
    ∙ ap (λ es. unwrap_or (last_word says es) (unwrap_or (last_word says (events_before n all)) first)) at

-- an input is up after n milliseconds of its past as the events before them say
pub past-up : (plan : Topology) (all : List Event) (input : InputId) (n : ℕ) → is_up (past_of (signal_at (signals_by plan all) input) n) ≡ up_before all input n
unfolding up_at
past-up plan all input zero = sym (ap (λ es. unwrap_or (last_word (says_input_up input) es) true) (none-before-0 all))
past-up plan all input (suc t) = refl
