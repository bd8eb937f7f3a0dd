-- How soon a network is settled again where, out of a settled millisecond, it only loses parts: by signals and by a list of events.
use Rattle.std.proofs.Common.{◌≡◌, ◌≤◌, ◌<◌, ◌+◌, ◌⊎◌, ℕ, suc, Bool, true, false, List, [], ◌∷◌, filter, Option, None, Some, slice_get, refl, ap, sym, ◌∙◌, inl, inr, arith}
use Rattle.std.specs.Prelude.{nat_eq, nat_lt, unwrap_or, if◌then◌else◌}
use Rattle.std.specs.Option.{option_or, option_map_or}
use Rattle.std.proofs.Math.Decide.{dec_lt}
use Rattle.std.proofs.lemmas.Bool.{true≢false, le-ltb, lt-ltb}
use Rattle.sync_text.specs.Each.{Each}
use Rattle.sync_text.proofs.Each.{each-all, Each-map}
use Rattle.sync_topo.specs.declared.element.Element.{Element}
use Rattle.sync_topo.specs.declared.input.InputId.{InputId}
use Rattle.sync_topo.specs.declared.event.What.{What}
use Rattle.sync_topo.specs.declared.event.What.TheVariants.{Down, Up, EsmcOff, EsmcOn, SourceLevel, Lockout, Unlock, Forced, Manual, Clear, ClearWtr}
use Rattle.sync_topo.specs.declared.event.Event.{Event}
use Rattle.sync_topo.specs.Topology.{Topology}
use Rattle.sync_topo.specs.Lines.{delay_of}
use Rattle.sync_topo.specs.Hops.{hops}
use Rattle.sync_topo.specs.WellFormed.{IsWellFormed}
use Rattle.net_rules.specs.Signals.{Signals, events_before, is_of_part, last_word, says_up, says_esmc, up_at, esmc_at, signals_by}
use Rattle.net_rules.specs.Settings.{timers_of}
use Rattle.net_rules.specs.History.{Levels, Obeys, out_at}
use Rattle.net_rules.specs.Settled.{IsSettled}
use Rattle.net_rules.specs.Settling.{IsGreatest}
use Rattle.net_rules.specs.Losing.{is_slow, NoneSlowAfter, IsQuickAfter, IsLosing, AreLosses, IsHoldoff, IsSoonBound}
use Rattle.net_rules.proofs.Backs.{hop-nominates}
use Rattle.net_rules.proofs.EventLaws.{quiet-after}
use Rattle.net_rules.proofs.FinalLaws.{obeys-well}
use Rattle.net_rules.proofs.HistoryLaws.{IsDelayed}
use Rattle.net_rules.proofs.PlanLaws.{IsDelayed-well}
use Rattle.net_rules.proofs.RunOutLaws.{losing-run_out}
use Rattle.net_rules.proofs.SettlingLaws.{AreLateOver, settles-from}

-- an event is in both of two parts of a list or in neither, or is only in the first and says nothing of a matter or this
abbrev Adds : {A : Type 0} → (What → Option A) → A → (Event → Bool) → (Event → Bool) → Event → Type 0
Adds says word p q event = (p event ≡ q event) ⊎ ((q event ≡ false) × ((says event.what ≡ None) ⊎ (says event.what ≡ Some word)))

-- so the last word is the same in both, or this one
follow : {A : Type 0} (says : What → Option A) (word : A) (p q : Event → Bool) (events : List Event) → Each (Adds says word p q) events
    → (last_word says (filter p events) ≡ last_word says (filter q events)) ⊎ (last_word says (filter p events) ≡ Some word)
follow says word p q [] each = inl refl
follow {A = A} says word p q (event ∷ events) each = of (p event) (q event) refl refl each.0 (follow says word p q events each.1)
  where
    one-more : (own other : Option A) → (own ≡ other) ⊎ (own ≡ Some word) → (told : Option A) → (option_or own told ≡ option_or other told) ⊎ (option_or own told ≡ Some word)
    one-more own other (inl same) told = inl (ap (λ o. option_or o told) same)
    one-more own other (inr is) told = inr (ap (λ o. option_or o told) is)

    added : (own other : Option A) → (own ≡ other) ⊎ (own ≡ Some word) → (told : Option A) → (told ≡ None) ⊎ (told ≡ Some word)
        → (option_or own told ≡ other) ⊎ (option_or own told ≡ Some word)
    added None other (inl same) told (inl none) = inl (none ∙ same)
    added None other (inl same) told (inr is) = inr is
    added None other (inr is) told says_so = cc
    added (Some x) other (inl same) told says_so = inl same
    added (Some x) other (inr is) told says_so = inr is

    of : (here there : Bool) → p event ≡ here → q event ≡ there → Adds says word p q event
        → (last_word says (filter p events) ≡ last_word says (filter q events)) ⊎ (last_word says (filter p events) ≡ Some word)
        → (last_word says (if here then event ∷ filter p events else filter p events) ≡ last_word says (if there then event ∷ filter q events else filter q events))
        ⊎ (last_word says (if here then event ∷ filter p events else filter p events) ≡ Some word)
    of true true is at one rest = one-more (last_word says (filter p events)) (last_word says (filter q events)) rest (says event.what)
    of false false is at one rest = rest
    of true false is at (inl same) rest = absurd (true≢false (sym is ∙ same ∙ at))
    of true false is at (inr new) rest = added (last_word says (filter p events)) (last_word says (filter q events)) rest (says event.what) new.1
    of false true is at (inl same) rest = absurd (true≢false (sym at ∙ sym same ∙ is))
    of false true is at (inr new) rest = absurd (true≢false (sym at ∙ new.0))

-- from one millisecond to the next, where what happens there says nothing of a matter or this
next-word : {A : Type 0} (says : What → Option A) (word : A) (events : List Event) (t : ℕ)
    → Each (λ event. event.at ≡ suc t → (says event.what ≡ None) ⊎ (says event.what ≡ Some word)) events
    → (last_word says (events_before (suc (suc t)) events) ≡ last_word says (events_before (suc t) events)) ⊎ (last_word says (events_before (suc (suc t)) events) ≡ Some word)
next-word says word events t each =
    follow says word (λ event. nat_lt event.at (suc (suc t))) (λ event. nat_lt event.at (suc t)) events
    (Each-map (λ event. event.at ≡ suc t → (says event.what ≡ None) ⊎ (says event.what ≡ Some word))
    (Adds says word (λ event. nat_lt event.at (suc (suc t))) (λ event. nat_lt event.at (suc t))) (λ event tells. place event tells) events each)
  where
    place : (event : Event) → (event.at ≡ suc t → (says event.what ≡ None) ⊎ (says event.what ≡ Some word))
        → Adds says word (λ event. nat_lt event.at (suc (suc t))) (λ event. nat_lt event.at (suc t)) event
    place event tells = elim (dec_lt event.at (suc t)) [
      | yes before ↦ inl (lt-ltb event.at (suc (suc t)) (omega (arith, before)) ∙ sym (lt-ltb event.at (suc t) before))
      | no later ↦ elim (dec_lt (suc t) event.at) [
        | yes after ↦ inl (le-ltb event.at (suc (suc t)) (omega (arith, after)) ∙ sym (le-ltb event.at (suc t) (omega (arith, later))))
        | no same ↦ inr (le-ltb event.at (suc t) (omega (arith, later)), tells (omega (arith, later, same)))
      ]
    ]

-- what isn't slow says of no input that it is up, and of no line that its ESMC is off
says-down : (input : InputId) (what : What) → is_slow what ≡ false → (says_up input what ≡ None) ⊎ (says_up input what ≡ Some false)
says-down input (Down part) quick = of (is_of_part input part)
  where
    of : (b : Bool) → ((if b then Some false else None) ≡ None) ⊎ ((if b then Some false else None) ≡ Some false)
    of true = inr refl
    of false = inl refl
says-down input (Up part) quick = cc
says-down input (EsmcOff line) quick = inl refl
says-down input (EsmcOn line) quick = inl refl
says-down input (SourceLevel source level) quick = inl refl
says-down input (Lockout other) quick = inl refl
says-down input (Unlock other) quick = inl refl
says-down input (Forced other) quick = inl refl
says-down input (Manual other) quick = inl refl
says-down input (Clear element) quick = inl refl
says-down input (ClearWtr other) quick = inl refl

says-on : (line : ℕ) (what : What) → is_slow what ≡ false → (says_esmc line what ≡ None) ⊎ (says_esmc line what ≡ Some true)
says-on line (EsmcOn other) quick = of (nat_eq line other.0)
  where
    of : (b : Bool) → ((if b then Some true else None) ≡ None) ⊎ ((if b then Some true else None) ≡ Some true)
    of true = inr refl
    of false = inl refl
says-on line (EsmcOff other) quick = cc
says-on line (Down part) quick = inl refl
says-on line (Up part) quick = inl refl
says-on line (SourceLevel source level) quick = inl refl
says-on line (Lockout other) quick = inl refl
says-on line (Unlock other) quick = inl refl
says-on line (Forced other) quick = inl refl
says-on line (Manual other) quick = inl refl
says-on line (Clear element) quick = inl refl
says-on line (ClearWtr other) quick = inl refl

quick-at : (events : List Event) (settled t : ℕ) → NoneSlowAfter events settled → settled ≤ t → Each (λ event. event.at ≡ suc t → is_slow event.what ≡ false) events
quick-at events settled t quick after =
    Each-map (λ event. settled < event.at → is_slow event.what ≡ false) (λ event. event.at ≡ suc t → is_slow event.what ≡ false)
    (λ event late same. late (omega (arith, after, same))) events
    (each-all (λ event. settled < event.at → is_slow event.what ≡ false) events quick)

-- so by events nothing comes up, and no line's ESMC goes off
pub quick-after : (plan : Topology) (events : List Event) (settled : ℕ) → NoneSlowAfter events settled → IsQuickAfter (signals_by plan events) settled
unfolding up_at esmc_at
quick-after plan events settled quick = record {
  up = λ input t after up.
      was (last_word (says_up input) (events_before (suc (suc t)) events)) (last_word (says_up input) (events_before (suc t) events)) up
      (next-word (says_up input) false events t
      (Each-map (λ event. event.at ≡ suc t → is_slow event.what ≡ false) (λ event. event.at ≡ suc t → (says_up input event.what ≡ None) ⊎ (says_up input event.what ≡ Some false))
      (λ event none at. says-down input event.what (none at)) events (quick-at events settled t quick after)));
  esmc = λ line t after off.
      was_off (last_word (says_esmc line) (events_before (suc (suc t)) events)) (last_word (says_esmc line) (events_before (suc t) events)) off
      (next-word (says_esmc line) true events t
      (Each-map (λ event. event.at ≡ suc t → is_slow event.what ≡ false) (λ event. event.at ≡ suc t → (says_esmc line event.what ≡ None) ⊎ (says_esmc line event.what ≡ Some true))
      (λ event none at. says-on line event.what (none at)) events (quick-at events settled t quick after)));
}
  where
    was : (now before : Option Bool) → unwrap_or now true ≡ true → (now ≡ before) ⊎ (now ≡ Some false) → unwrap_or before true ≡ true
    was now before up (inl same) = ap (λ o. unwrap_or o true) (sym same) ∙ up
    was now before up (inr down) = absurd (true≢false (sym up ∙ ap (λ o. unwrap_or o true) down))

    was_off : (now before : Option Bool) → unwrap_or now true ≡ false → (now ≡ before) ⊎ (now ≡ Some true) → unwrap_or before true ≡ false
    was_off now before off (inl same) = ap (λ o. unwrap_or o true) (sym same) ∙ off
    was_off now before off (inr on) = absurd (true≢false (sym (ap (λ o. unwrap_or o true) on) ∙ off))

pub losing-by_events : (plan : Topology) (events : List Event) (settled last : ℕ) → AreLosses plan events settled last
    → IsLosing plan (signals_by plan events) (out_at plan (signals_by plan events)) settled last
losing-by_events plan events settled last losses = record {
  rests = losses.rests;
  quick = quick-after plan events settled losses.quick;
  later = losses.later;
  quiet = quiet-after plan events last losses.none;
}

-- no element has a longer hold-off time than the greatest
pub holdoff-most : (plan : Topology) (holdoff : ℕ) → IsGreatest (IsHoldoff plan) holdoff → (element : ℕ) → (timers_of plan element).holdoff ≤ holdoff
holdoff-most plan holdoff greatest element = of (slice_get plan.elements element) refl
  where
    of : (o : Option Element) → slice_get plan.elements element ≡ o → option_map_or (λ (e : Element). e.holdoff) o 0 ≤ holdoff
    of None is = omega arith
    of (Some it) is = greatest.most it.holdoff (record { place = element; element = it; has = is; is = refl })

-- the bound
pub soon-settles : (plan : Topology) (signals : Signals) (out : Levels) (settled last bound t : ℕ) → IsWellFormed plan → Obeys plan signals out
    → IsSoonBound plan bound → IsLosing plan signals out settled last → last + bound ≤ t → IsSettled plan signals out t
soon-settles plan signals out settled last bound t well obeys is losing after =
    settles-from plan signals out is.time last is.holdoff is.longest is.delay (record {
      runs_out = losing-run_out plan signals out settled last losing delayed is.holdoff is.delay
          (λ line nominated. is.greatest_delay.most (delay_of plan line) (record { line = line; nominated = nominated; is = refl }))
          (holdoff-most plan is.holdoff is.greatest_holdoff);
      one_way = is.one_way;
      late = late;
      times = λ line nominated. is.greatest_time.most (is.time line) (record { line = line; nominated = nominated; is = refl });
    }) delayed obeys t (omega (arith, after, is.is))
  where
    delayed : IsDelayed plan
    delayed = IsDelayed-well plan well

    late : AreLateOver (hops plan) plan is.time
    late before line hop = (is.times line (hop-nominates plan before line hop)).most (is.time before + delay_of plan before) (record { before = before; hops = hop; is = refl })

pub soon-by_events : (plan : Topology) (events : List Event) (settled last bound t : ℕ) → IsWellFormed plan → IsSoonBound plan bound
    → AreLosses plan events settled last → last + bound ≤ t → IsSettled plan (signals_by plan events) (out_at plan (signals_by plan events)) t
soon-by_events plan events settled last bound t well is losses after =
    soon-settles plan (signals_by plan events) (out_at plan (signals_by plan events)) settled last bound t well (obeys-well plan (signals_by plan events) well) is
    (losing-by_events plan events settled last losses) after
