-- What a list of events leaves as it is.
use Rattle.std.proofs.Common.{◌≡◌, ◌≢◌, ◌≤◌, ◌<◌, ◌+◌, ◌-◌, ◌⊎◌, ℕ, suc, Bool, true, false, List, [], ◌∷◌, filter, Option, None, Some, is_some, refl, ap, sym, ◌∙◌, inl, inr, arith}
use Rattle.std.specs.Prelude.{IsTrue, nat_lt, unwrap_or, if◌then◌else◌}
use Rattle.std.specs.List.{filter_map}
use Rattle.std.specs.Option.{option_or}
use Rattle.std.proofs.Math.Decide.{dec_lt}
use Rattle.std.proofs.lemmas.Bool.{true≢false, le-ltb, lt-ltb, ne_eqb, or_parts}
use Rattle.sync_text.specs.Each.{Each}
use Rattle.sync_text.proofs.Options.{is_some-false}
use Rattle.sync_text.proofs.Each.{each-all, Each-map}
use Rattle.sync_topo.specs.declared.input.InputId.{InputId}
use Rattle.sync_topo.specs.declared.input.InputId.TheVariants.{Source}
use Rattle.sync_topo.specs.declared.event.What.{What}
use Rattle.sync_topo.specs.declared.event.Event.{Event}
use Rattle.sync_topo.specs.Topology.{Topology}
use Rattle.sync_topo.specs.Lines.{line_input, delay_of}
use Rattle.net_rules.specs.Signals.{events_before, events_at, last_word, says_up, says_esmc, says_level, command_to, up_at, esmc_at, said_at, source_level_before, source_level_at, planned_level, signals_by}
use Rattle.net_rules.specs.Staying.{IsQuietAfter, AreStillBefore}
use Rattle.net_rules.specs.Settling.{NoneAfter, switches_line, AreUnswitchedBefore}

-- two tests that differ only at events that don't speak of a matter leave its last word
pub last_word-filter : {A : Type 0} (says : What → Option A) (p q : Event → Bool) (events : List Event)
    → Each (λ event. (p event ≡ q event) ⊎ (says event.what ≡ None)) events → last_word says (filter p events) ≡ last_word says (filter q events)
last_word-filter says p q [] each = refl
last_word-filter {A = A} says p q (event ∷ events) each = of (p event) (q event) refl refl each.0 (last_word-filter says p q events each.1)
  where
    silent : (o : Option A) → says event.what ≡ None → option_or o (says event.what) ≡ o
    silent None none = none
    silent (Some x) none = refl

    of : (here there : Bool) → p event ≡ here → q event ≡ there → (p event ≡ q event) ⊎ (says event.what ≡ None)
        → last_word says (filter p events) ≡ last_word says (filter q events)
        → last_word says (if here then event ∷ filter p events else filter p events) ≡ last_word says (if there then event ∷ filter q events else filter q events)
    of true true is at one rest = ap (λ o. option_or o (says event.what)) rest
    of false false is at one rest = rest
    of true false is at one rest = elim one [
      | inl same ↦ absurd (true≢false (sym is ∙ same ∙ at))
      | inr none ↦ silent (last_word says (filter p events)) none ∙ rest
    ]
    of false true is at one rest = elim one [
      | inl same ↦ absurd (true≢false (sym at ∙ sym same ∙ is))
      | inr none ↦ rest ∙ sym (silent (last_word says (filter q events)) none)
    ]

-- a millisecond more, where no event of it speaks of a matter
pub same-before : {A : Type 0} (says : What → Option A) (events : List Event) (t : ℕ) → Each (λ event. (event.at ≢ t) ⊎ (says event.what ≡ None)) events
    → last_word says (events_before (suc t) events) ≡ last_word says (events_before t events)
same-before says events t each =
    last_word-filter says (λ event. nat_lt event.at (suc t)) (λ event. nat_lt event.at t) events
    (Each-map (λ event. (event.at ≢ t) ⊎ (says event.what ≡ None)) (λ event. (nat_lt event.at (suc t) ≡ nat_lt event.at t) ⊎ (says event.what ≡ None))
    (λ event one. elim one [
      | inl other ↦ inl (same_test event.at t other)
      | inr none ↦ inr none
    ]) events each)
  where
    same_test : (at t : ℕ) → at ≢ t → nat_lt at (suc t) ≡ nat_lt at t
    same_test at t other = elim (dec_lt at t) [
      | yes before ↦ lt-ltb at (suc t) (omega (arith, before)) ∙ sym (lt-ltb at t before)
      | no after ↦ le-ltb at (suc t) (omega (arith, after, other)) ∙ sym (le-ltb at t (omega (arith, after)))
    ]

-- no event at a millisecond
none-at : (events : List Event) (t : ℕ) → Each (λ event. event.at ≢ t) events → events_at t events ≡ []
none-at [] t each = refl
none-at (event ∷ events) t each = rw (ne_eqb event.at t each.0, none-at events t each.1) refl

-- no event after a millisecond
not-later : (events : List Event) (t u : ℕ) → NoneAfter events t → t ≤ u → Each (λ event. event.at ≢ suc u) events
not-later events t u none after =
    Each-map (λ event. event.at ≤ t) (λ event. event.at ≢ suc u) (λ event before same. omega (arith, before, same, after)) events
    (each-all (λ event. event.at ≤ t) events none)

unspoken : {A : Type 0} (says : What → Option A) (events : List Event) (t : ℕ) → Each (λ event. event.at ≢ t) events
    → Each (λ event. (event.at ≢ t) ⊎ (says event.what ≡ None)) events
unspoken says events t each = Each-map (λ event. event.at ≢ t) (λ event. (event.at ≢ t) ⊎ (says event.what ≡ None)) (λ event other. inl other) events each

pub up-same : (events : List Event) (input : InputId) (t : ℕ) → Each (λ event. (event.at ≢ suc t) ⊎ (says_up input event.what ≡ None)) events
    → up_at events input (suc t) ≡ up_at events input t
unfolding up_at
up-same events input t each = ap (λ o. unwrap_or o true) (same-before (says_up input) events (suc t) each)

esmc-same : (events : List Event) (line t : ℕ) → Each (λ event. (event.at ≢ suc t) ⊎ (says_esmc line event.what ≡ None)) events
    → esmc_at events line (suc t) ≡ esmc_at events line t
unfolding esmc_at
esmc-same events line t each = ap (λ o. unwrap_or o true) (same-before (says_esmc line) events (suc t) each)

level-same : (plan : Topology) (events : List Event) (source t : ℕ) → Each (λ event. event.at ≢ suc t) events
    → source_level_at plan events source (suc t) ≡ source_level_at plan events source t
unfolding source_level_at said_at
level-same plan events source t each =
    of (up_at events (Source source) (suc t)) (up_at events (Source source) t) refl refl (up-same events (Source source) t (unspoken (says_up (Source source)) events (suc t) each))
  where
    said : said_at plan events source (suc t) ≡ said_at plan events source t
    said = ap (λ o. unwrap_or o (planned_level plan source)) (same-before (says_level source) events (suc t) (unspoken (says_level source) events (suc t) each))

    of : (up before : Bool) → up_at events (Source source) (suc t) ≡ up → up_at events (Source source) t ≡ before → up_at events (Source source) (suc t) ≡ up_at events (Source source) t
        → (if up_at events (Source source) (suc t) then said_at plan events source (suc t)
        else if up_at events (Source source) t then said_at plan events source t else source_level_before plan events source t)
        ≡ (if up_at events (Source source) t then said_at plan events source t else source_level_before plan events source t)
    of true before is at same = rw (is, sym same ∙ is) said
    of false before is at same = rw is refl

-- after the last event nothing changes outside
pub quiet-after : (plan : Topology) (events : List Event) (t : ℕ) → NoneAfter events t → IsQuietAfter (signals_by plan events) t
quiet-after plan events t none = record {
  up = λ input u after. up-same events input u (unspoken (says_up input) events (suc u) (not-later events t u none after));
  esmc = λ line u after. esmc-same events line u (unspoken (says_esmc line) events (suc u) (not-later events t u none after));
  source_level = λ source u after. level-same plan events source u (not-later events t u none after);
  commands = λ element u after. ap (filter_map (λ event. command_to plan element event.what)) (none-at events (suc u) (not-later events t u none after));
}

-- an event at a millisecond doesn't switch a line
abbrev LeavesLine : ℕ → ℕ → Event → Type 0
LeavesLine line t event = IsTrue (switches_line line event.what) → event.at ≢ t

leaves : (line t : ℕ) (event : Event) → LeavesLine line t event
    → ((event.at ≢ t) ⊎ (says_up (line_input line) event.what ≡ None)) × ((event.at ≢ t) ⊎ (says_esmc line event.what ≡ None))
leaves line t event other = of (switches_line line event.what) refl
  where
    of : (b : Bool) → switches_line line event.what ≡ b
        → ((event.at ≢ t) ⊎ (says_up (line_input line) event.what ≡ None)) × ((event.at ≢ t) ⊎ (says_esmc line event.what ≡ None))
    of true is = (inl (other is), inl (other is))
    of false is =
        let both = or_parts (is_some (says_up (line_input line) event.what)) (is_some (says_esmc line event.what)) is in
        (inr (is_some-false (says_up (line_input line) event.what) both.0), inr (is_some-false (says_esmc line event.what) both.1))

line-same : (plan : Topology) (events : List Event) (line t : ℕ) → Each (LeavesLine line (suc t)) events
    → (up_at events (line_input line) (suc t) ≡ up_at events (line_input line) t) × (esmc_at events line (suc t) ≡ esmc_at events line t)
line-same plan events line t each = (
  up-same events (line_input line) t (Each-map (LeavesLine line (suc t)) _ (λ event other. (leaves line (suc t) event other).0) events each),
  esmc-same events line t (Each-map (LeavesLine line (suc t)) _ (λ event other. (leaves line (suc t) event other).1) events each),
)

-- a line that no event switches in a delay is still in it
pub still-before : (plan : Topology) (events : List Event) (t : ℕ) → AreUnswitchedBefore plan events t → AreStillBefore plan (signals_by plan events) t
still-before plan events t none line nominated = record {
  up = λ u after before. (line-same plan events line u (each u after before)).0;
  esmc = λ u after before. (line-same plan events line u (each u after before)).1;
}
  where
    each : (u : ℕ) → t - delay_of plan line ≤ u → u < t → Each (LeavesLine line (suc u)) events
    each u after before =
        Each-map (λ event. IsTrue (switches_line line event.what) → event.at + delay_of plan line ≤ t) (LeavesLine line (suc u))
        (λ event early switches same. let ended = early switches in omega (arith, ended, same, after, before)) events
        (each-all (λ event. IsTrue (switches_line line event.what) → event.at + delay_of plan line ≤ t) events (none line nominated))

-- of events that are not before a millisecond none is before it
pub none-before : (n : ℕ) (events : List Event) → Each (λ event. n ≤ event.at) events → events_before n events ≡ []
none-before n [] late = refl
none-before n (event ∷ events) late = rw (le-ltb event.at n late.0, none-before n events late.1) refl
