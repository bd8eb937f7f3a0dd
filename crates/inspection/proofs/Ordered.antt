-- Events in order of time: those before a millisecond, and at one.
use Rattle.std.proofs.Common.{◌≡◌, ◌≤◌, ◌<◌, ℕ, zero, suc, Bool, true, false, List, [], ◌∷◌, ◌++◌, take, Some, slice_get, refl, ap, sym, ◌∙◌, inl, inr, arith}
use Rattle.std.specs.Prelude.{nat_lt, if◌then◌else◌}
use Rattle.std.proofs.Math.Decide.{dec_lt}
use Rattle.std.proofs.lemmas.Bool.{lt-ltb, le-ltb, eq-eqb, ne_eqb}
use Rattle.std.proofs.lemmas.Bool.Decides.{eqb_tells}
use Rattle.std.proofs.lemmas.Option.{same_Some, none-some}
use Rattle.sync_text.specs.Each.{Each}
use Rattle.sync_text.proofs.Each.{Each-map, each-at}
use Rattle.sync_topo.specs.declared.event.Event.{Event}
use Rattle.net_rules.specs.Signals.{events_before, events_at}
use Rattle.net_rules.proofs.EventLaws.{none-before}
use Rattle.event_times.proofs.Ascending.{Ascend}

-- those before the next millisecond are those before it, and then those at it
pub before-more : (events : List Event) (t : ℕ) → Ascend events → events_before (suc t) events ≡ events_before t events ++ events_at t events
before-more [] t order = refl
before-more (event ∷ events) t order = elim (dec_lt event.at t) [
  | yes early ↦
      rw (lt-ltb event.at (suc t) (omega (arith, early)), lt-ltb event.at t early, ne_eqb event.at t (λ same. omega (arith, early, same)))
      (ap (λ rest. event ∷ rest) (before-more events t order.1))
  | no late ↦ elim (eqb_tells event.at t) [
    | inl same ↦
        let rest : events_before t events ≡ [] = none-before t events (Each-map (λ later. event.at ≤ later.at) (λ later. t ≤ later.at) (λ later after. omega (arith, after, same.1)) events order.0) in
        rw (lt-ltb event.at (suc t) (omega (arith, same.1)), le-ltb event.at t (omega (arith, late)), eq-eqb event.at t same.1)
        (ap (λ more. event ∷ more) (before-more events t order.1 ∙ ap (λ front. front ++ events_at t events) rest) ∙ ap (λ front. front ++ event ∷ events_at t events) (sym rest))
    | inr other ↦
        rw (le-ltb event.at (suc t) (omega (arith, late, other.1)), le-ltb event.at t (omega (arith, late)), other.0)
        (before-more events t order.1)
  ]
]

-- all are before a millisecond
pub all-before : (events : List Event) (n : ℕ) → Each (λ event. event.at < n) events → events_before n events ≡ events
all-before [] n early = refl
all-before (event ∷ events) n early = rw (lt-ltb event.at n early.0, all-before events n early.1) refl

-- none is before the first millisecond
never : (events : List Event) → Each (λ event. 0 ≤ event.at) events
never [] = tt
never (event ∷ events) = (omega arith, never events)

pub none-first : (events : List Event) → events_before 0 events ≡ []
none-first events = none-before 0 events (never events)

-- lists that are alike in each millisecond before one are alike before it
pub before-same : (events others : List Event) (n : ℕ) → Ascend events → Ascend others → ((t : ℕ) → t < n → events_at t events ≡ events_at t others) → events_before n events ≡ events_before n others
before-same events others zero first second same = none-first events ∙ sym (none-first others)
before-same events others (suc t) first second same =
    before-more events t first
    ∙ ap (λ front. front ++ events_at t events) (before-same events others t first second (λ s early. same s (omega (arith, early))))
    ∙ ap (λ here. events_before t others ++ here) (same t (omega arith))
    ∙ sym (before-more others t second)

-- what stands before an event: all that is earlier, and what stands before it in its own
-- millisecond
pub front-is : (events : List Event) (place : ℕ) (event : Event) → Ascend events → slice_get events place ≡ Some event
    → take place events ≡ events_before event.at events ++ events_at event.at (take place events)
front-is [] place event order at = absurd (none-some event at)
front-is (first ∷ events) zero event order at =
    let same : first ≡ event = same_Some first event at in
    let none : events_before event.at (first ∷ events) ≡ [] = none-before event.at (first ∷ events)
    (omega (arith, ap (λ (e : Event). e.at) same), Each-map (λ later. first.at ≤ later.at) (λ later. event.at ≤ later.at) (λ later after. omega (arith, after, ap (λ (e : Event). e.at) same)) events order.0) in
    sym (ap (λ front. front ++ []) none)
front-is (first ∷ events) (suc place) event order at =
    let rest = front-is events place event order.1 at in
    let low : first.at ≤ event.at = each-at (λ later. first.at ≤ later.at) events place event order.0 at in
    elim (eqb_tells first.at event.at) [
      | inl same ↦
          let none : events_before event.at events ≡ [] = none-before event.at events (Each-map (λ later. first.at ≤ later.at) (λ later. event.at ≤ later.at) (λ later after. omega (arith, after, same.1)) events order.0) in
          let here : take place events ≡ events_at event.at (take place events) = rest ∙ ap (λ front. front ++ events_at event.at (take place events)) none in
          rw (le-ltb first.at event.at (omega (arith, same.1)), eq-eqb first.at event.at same.1, none) (ap (λ more. first ∷ more) here)
      | inr other ↦
          rw (lt-ltb first.at event.at (omega (arith, low, other.1)), other.0) (ap (λ more. first ∷ more) rest)
    ]

-- of those before a later millisecond, those before one
pub before-before : (events : List Event) (m n : ℕ) → m ≤ n → events_before m (events_before n events) ≡ events_before m events
before-before [] m n early = refl
before-before (event ∷ events) m n early = elim (dec_lt event.at n) [
  | yes before ↦ rw (lt-ltb event.at n before) (by (nat_lt event.at m) (before-before events m n early))
  | no after ↦ rw (le-ltb event.at n (omega (arith, after)), le-ltb event.at m (omega (arith, after, early))) (before-before events m n early)
]
  where
    by : (b : Bool) → events_before m (events_before n events) ≡ events_before m events
        → (if b then event ∷ events_before m (events_before n events) else events_before m (events_before n events))
        ≡ (if b then event ∷ events_before m events else events_before m events)
    by true rest = ap (λ more. event ∷ more) rest
    by false rest = rest
