-- Later events change nothing earlier; and of one millisecond's events only the order in which they touch
-- each element counts.
use Rattle.std.proofs.Common.{◌≡◌, ◌≤◌, ◌<◌, ℕ, zero, suc, Bool, true, false, ◌||◌, List, [], ◌∷◌, ◌++◌, filter, length, Option, None, Some, refl, ap, sym, ◌∙◌, inl, inr, arith}
use Rattle.std.specs.Prelude.{nat_lt, nat_eq, unwrap_or, if◌then◌else◌, IsTrue}
use Rattle.std.specs.List.{All, list_any, filter_map, cons_option}
use Rattle.std.specs.Option.{option_or}
use Rattle.std.proofs.lemmas.Bool.{le-ltb, ne_eqb}
use Rattle.std.proofs.lemmas.List.Elements.{filter-append}
use Rattle.std.proofs.lemmas.Option.{slice_get_cases}
use Rattle.sync_text.proofs.Each.{Each-map, each-all, filter-none}
use Rattle.sync_text.specs.Each.{Each}
use Rattle.sync_topo.specs.declared.input.InputId.{InputId}
use Rattle.sync_topo.specs.declared.input.InputId.TheVariants.{Line, Source}
use Rattle.sync_topo.specs.declared.event.What.{What}
use Rattle.sync_topo.specs.declared.event.Event.{Event}
use Rattle.sync_topo.specs.Topology.{Topology}
use Rattle.sync_topo.specs.Lines.{receiver_of, element_of_source, IsInput, is_nominated_input, element_of}
use Rattle.sync_topo.specs.WellFormed.{IsWellFormed}
use Rattle.sync_topo.proofs.LineLaws.{IsNominated-within}
use Rattle.net_rules.specs.Signals.{events_before, events_at, last_word, says_up, says_esmc, says_level, clears, command_to, up_at, esmc_at, said_at, source_level_before, source_level_at, signals_by}
use Rattle.net_rules.specs.Inputs.{IsInputOf}
use Rattle.net_rules.specs.Sameness.{IsSameUntil}
use Rattle.net_rules.specs.Activity.{touches, TouchAlike}
use Rattle.net_rules.proofs.PlanLaws.{receiver-within}
use Rattle.net_rules.proofs.TouchLaws.{up-silent, esmc-silent, level-silent, clear-silent, command-silent}

append_none : (xs : List Event) → xs ++ [] ≡ xs
append_none [] = refl
append_none (x ∷ xs) = ap (λ ys. x ∷ ys) (append_none xs)

before-later : (events more : List Event) (n t : ℕ) → n ≤ suc t → Each (λ event. t < event.at) more → events_before n (events ++ more) ≡ events_before n events
before-later events more n t until later =
    filter-append (λ event. nat_lt event.at n) events more
    ∙ ap (λ kept. events_before n events ++ kept) (filter-none (λ event. nat_lt event.at n) more
    (Each-map (λ event. t < event.at) (λ event. nat_lt event.at n ≡ false) (λ event after. le-ltb event.at n (omega (arith, until, after))) more later))
    ∙ append_none (events_before n events)

at-later : (events more : List Event) (s t : ℕ) → s ≤ t → Each (λ event. t < event.at) more → events_at s (events ++ more) ≡ events_at s events
at-later events more s t until later =
    filter-append (λ event. nat_eq event.at s) events more
    ∙ ap (λ kept. events_at s events ++ kept) (filter-none (λ event. nat_eq event.at s) more
    (Each-map (λ event. t < event.at) (λ event. nat_eq event.at s ≡ false) (λ event after. ne_eqb event.at s (λ same. omega (arith, until, after, same))) more later))
    ∙ append_none (events_at s events)

level_before-later : (plan : Topology) (events more : List Event) (source n t : ℕ) → n ≤ suc t → Each (λ event. t < event.at) more
    → source_level_before plan (events ++ more) source n ≡ source_level_before plan events source n
unfolding up_at said_at
level_before-later plan events more source zero t until later = refl
level_before-later plan events more source (suc n) t until later =
    rw (before-later events more (suc n) t until later, level_before-later plan events more source n t (omega (arith, until)) later) refl

pub later-same : (plan : Topology) (events more : List Event) (t : ℕ) → All (λ event. t < event.at) more
    → IsSameUntil plan t (signals_by plan (events ++ more)) (signals_by plan events)
unfolding up_at esmc_at source_level_at
later-same plan events more t all =
    let later = each-all (λ event. t < event.at) more all in
    record {
      up = λ input s has nominated until. ap (λ kept. unwrap_or (last_word (says_up input) kept) true) (before-later events more (suc s) t (omega (arith, until)) later);
      clear = λ input s has nominated until. ap (list_any (λ event. clears input event.what)) (at-later events more s t until later);
      esmc = λ line s nominated until. ap (λ kept. unwrap_or (last_word (says_esmc line) kept) true) (before-later events more (suc s) t (omega (arith, until)) later);
      source_level = λ source s has nominated until. level_before-later plan events more source (suc s) t (omega (arith, until)) later;
      commands = λ element s inside until. ap (filter_map (λ event. command_to plan element event.what)) (at-later events more s t until later);
    }

-- what doesn't touch an element may be left out
touched-word : {A : Type 0} (says : What → Option A) (touch p : Event → Bool) (events : List Event) → ((event : Event) → touch event ≡ false → says event.what ≡ None)
    → last_word says (filter p events) ≡ last_word says (filter p (filter touch events))
touched-word says touch p [] silent = refl
touched-word {A = A} says touch p (event ∷ events) silent = of (touch event) (p event) refl refl (touched-word says touch p events silent)
  where
    nothing : (o : Option A) → says event.what ≡ None → option_or o (says event.what) ≡ o
    nothing None none = none
    nothing (Some x) none = refl

    of : (touched passes : Bool) → touch event ≡ touched → p event ≡ passes → last_word says (filter p events) ≡ last_word says (filter p (filter touch events))
        → last_word says (if p event then event ∷ filter p events else filter p events) ≡ last_word says (filter p (if touched then event ∷ filter touch events else filter touch events))
    of true true is at rest = rw (at) (ap (λ o. option_or o (says event.what)) rest)
    of true false is at rest = rw (at) rest
    of false true is at rest = rw (at) (nothing (last_word says (filter p events)) (silent event is) ∙ rest)
    of false false is at rest = rw (at) rest

touched-any : (test touch p : Event → Bool) (events : List Event) → ((event : Event) → touch event ≡ false → test event ≡ false)
    → list_any test (filter p events) ≡ list_any test (filter p (filter touch events))
touched-any test touch p [] silent = refl
touched-any test touch p (event ∷ events) silent = of (touch event) (p event) refl refl (touched-any test touch p events silent)
  where
    of : (touched passes : Bool) → touch event ≡ touched → p event ≡ passes → list_any test (filter p events) ≡ list_any test (filter p (filter touch events))
        → list_any test (if p event then event ∷ filter p events else filter p events) ≡ list_any test (filter p (if touched then event ∷ filter touch events else filter touch events))
    of true true is at rest = rw (at) (ap (λ b. test event || b) rest)
    of true false is at rest = rw (at) rest
    of false true is at rest = rw (at, silent event is) rest
    of false false is at rest = rw (at) rest

touched-map : {A : Type 0} (h : Event → Option A) (touch p : Event → Bool) (events : List Event) → ((event : Event) → touch event ≡ false → h event ≡ None)
    → filter_map h (filter p events) ≡ filter_map h (filter p (filter touch events))
touched-map h touch p [] silent = refl
touched-map h touch p (event ∷ events) silent = of (touch event) (p event) refl refl (touched-map h touch p events silent)
  where
    of : (touched passes : Bool) → touch event ≡ touched → p event ≡ passes → filter_map h (filter p events) ≡ filter_map h (filter p (filter touch events))
        → filter_map h (if p event then event ∷ filter p events else filter p events) ≡ filter_map h (filter p (if touched then event ∷ filter touch events else filter touch events))
    of true true is at rest = rw (at) (ap (cons_option (h event)) rest)
    of true false is at rest = rw (at) rest
    of false true is at rest = rw (at, silent event is) rest
    of false false is at rest = rw (at) rest

-- the events that touch an element
abbrev touching : Topology → ℕ → Event → Bool
touching plan element event = touches plan element event.what

word-same : {A : Type 0} (plan : Topology) (element : ℕ) (says : What → Option A) (p : Event → Bool) (events others : List Event)
    → ((what : What) → touches plan element what ≡ false → says what ≡ None) → filter (touching plan element) events ≡ filter (touching plan element) others
    → last_word says (filter p events) ≡ last_word says (filter p others)
word-same plan element says p events others silent same =
    touched-word says (touching plan element) p events (λ event none. silent event.what none)
    ∙ ap (λ kept. last_word says (filter p kept)) same
    ∙ sym (touched-word says (touching plan element) p others (λ event none. silent event.what none))

pub input-within : (plan : Topology) → IsWellFormed plan → (input : InputId) → IsInput plan input → element_of plan input < length plan.elements
input-within plan well (Line line) has = receiver-within plan well line.0 has
input-within plan well (Source source) has = elim (slice_get_cases plan.sources source).1 [
  | inl there ↦ rw (there.2) ((well.sources_fit source there.0 there.2).at_is_element)
  | inr past ↦ absurd (omega (arith, has, past.0))
]

-- a nominated input is one of its own element
input-own : (plan : Topology) (input : InputId) → IsInput plan input → IsTrue (is_nominated_input plan input) → IsInputOf plan (element_of plan input) input
input-own plan input has nominated = record { has = has; nominated = nominated; of_element = refl }

level_before-same : (plan : Topology) (events others : List Event) (source n : ℕ) → IsInputOf plan (element_of_source plan source) (Source source)
    → filter (touching plan (element_of_source plan source)) events ≡ filter (touching plan (element_of_source plan source)) others
    → source_level_before plan events source n ≡ source_level_before plan others source n
unfolding up_at said_at
level_before-same plan events others source zero own same = refl
level_before-same plan events others source (suc n) own same =
    rw (
      word-same plan (element_of_source plan source) (says_up (Source source)) (λ event. nat_lt event.at (suc n)) events others (up-silent plan (Source source) (element_of_source plan source) own) same,
      word-same plan (element_of_source plan source) (says_level source) (λ event. nat_lt event.at (suc n)) events others (level-silent plan source (element_of_source plan source) own) same,
      level_before-same plan events others source n own same,
    ) refl

pub touch-same : (plan : Topology) (events others : List Event) (t : ℕ) → IsWellFormed plan → TouchAlike plan events others
    → IsSameUntil plan t (signals_by plan events) (signals_by plan others)
unfolding up_at esmc_at source_level_at
touch-same plan events others t well alike = record {
  up = λ input s has nominated until. ap (λ o. unwrap_or o true)
      (word-same plan (element_of plan input) (says_up input) (λ event. nat_lt event.at (suc s)) events others (up-silent plan input (element_of plan input) (input-own plan input has nominated)) (alike (element_of plan input) (input-within plan well input has)));
  clear = λ input s has nominated until.
      touched-any (λ event. clears input event.what) (touching plan (element_of plan input)) (λ event. nat_eq event.at s) events (λ event none. clear-silent plan input (element_of plan input) (input-own plan input has nominated) event.what none)
      ∙ ap (λ kept. list_any (λ event. clears input event.what) (events_at s kept)) (alike (element_of plan input) (input-within plan well input has))
      ∙ sym (touched-any (λ event. clears input event.what) (touching plan (element_of plan input)) (λ event. nat_eq event.at s) others (λ event none. clear-silent plan input (element_of plan input) (input-own plan input has nominated) event.what none));
  esmc = λ line s nominated until. ap (λ o. unwrap_or o true)
      (word-same plan (receiver_of plan line) (says_esmc line) (λ event. nat_lt event.at (suc s)) events others (esmc-silent plan line (receiver_of plan line) refl)
      (alike (receiver_of plan line) (receiver-within plan well line (IsNominated-within plan line nominated))));
  source_level = λ source s has nominated until. level_before-same plan events others source (suc s) (input-own plan (Source source) has nominated) (alike (element_of_source plan source) (input-within plan well (Source source) has));
  commands = λ element s inside until.
      touched-map (λ event. command_to plan element event.what) (touching plan element) (λ event. nat_eq event.at s) events (λ event none. command-silent plan element event.what none)
      ∙ ap (λ kept. filter_map (λ event. command_to plan element event.what) (events_at s kept)) (alike element inside)
      ∙ sym (touched-map (λ event. command_to plan element event.what) (touching plan element) (λ event. nat_eq event.at s) others (λ event none. command-silent plan element event.what none));
}
