-- Events of all runs and those of one, in order of time.
use Rattle.std.proofs.Common.{◌≡◌, ◌≢◌, ◌≤◌, ◌<◌, inl, inr, ℕ, zero, suc, Bool, true, false, List, [], ◌∷◌, ◌++◌, length, take, drop, refl, ap, ◌∙◌, arith}
use Rattle.std.specs.Prelude.{nat_eq, nat_lt, slice_get, slice_index_or, Some, if◌then◌else◌}
use Rattle.std.proofs.Math.Decide.{dec_lt}
use Rattle.std.proofs.lemmas.Bool.{lt-ltb, le-ltb}
use Rattle.std.proofs.lemmas.Bool.Decides.{eqb_tells}
use Rattle.sync_text.specs.Each.{Each}
use Rattle.sync_text.proofs.Each.{Each-map, each-all, all-each}
use Rattle.sync_topo.specs.declared.event.Event.{Event}
use Rattle.sync_topo.specs.Topology.{Topology}
use Rattle.sync_topo.specs.Events.{Fits, IsEventList}
use Rattle.net_rules.specs.Signals.{events_at}
use Rattle.event_times.proofs.EventTimes.{none-at}
use Rattle.event_times.proofs.Ascending.{Ascend, ascend, ordered-by}
use Rattle.sync_sweep.specs.Cases.{after_earlier, merged}

-- what both have, all have
each-after : (P : Event → Type 0) (event : Event) (rest : List Event → List Event) → P event → ((owns : List Event) → Each P owns → Each P (rest owns))
    → (own : List Event) → Each P own → Each P (after_earlier event rest own)
unfolding after_earlier
each-after P event rest here keeps [] each = (here, keeps [] tt)
each-after P event rest here keeps (own ∷ owns) each = of (nat_lt own.at event.at) (each-after P event rest here keeps owns each.1)
  where
    of : (b : Bool) → Each P (after_earlier event rest owns) → Each P (if b then own ∷ after_earlier event rest owns else event ∷ rest (own ∷ owns))
    of true later = (each.0, later)
    of false later = (here, keeps (own ∷ owns) each)

pub each-merged : (P : Event → Type 0) (common own : List Event) → Each P common → Each P own → Each P (merged common own)
unfolding merged
each-merged P [] own first second = second
each-merged P (event ∷ common) own first second = each-after P event (merged common) first.0 (λ owns each. each-merged P common owns first.1 each) own second

-- and they are in order
order-after : (event : Event) (rest : List Event → List Event) → ((owns : List Event) → Ascend owns → Ascend (rest owns))
    → ((n : ℕ) → n ≤ event.at → (owns : List Event) → Each (λ later. n ≤ later.at) owns → Each (λ later. n ≤ later.at) (rest owns))
    → (own : List Event) → Ascend own → Ascend (after_earlier event rest own)
unfolding after_earlier
order-after event rest ordered keeps [] order = (keeps event.at (omega arith) [] tt, ordered [] tt)
order-after event rest ordered keeps (own ∷ owns) order = elim (dec_lt own.at event.at) [
  | yes early ↦
      rw (lt-ltb own.at event.at early) (
        each-after (λ later. own.at ≤ later.at) event rest (omega (arith, early)) (keeps own.at (omega (arith, early))) owns order.0,
        order-after event rest ordered keeps owns order.1,
      )
  | no late ↦
      let after : event.at ≤ own.at = omega (arith, late) in
      rw (le-ltb own.at event.at after) (
        keeps event.at (omega arith) (own ∷ owns) (after, Each-map (λ later. own.at ≤ later.at) (λ later. event.at ≤ later.at) (λ later more. omega (arith, more, after)) owns order.0),
        ordered (own ∷ owns) order,
      )
]

pub ascend-merged : (common own : List Event) → Ascend common → Ascend own → Ascend (merged common own)
unfolding merged
ascend-merged [] own first second = second
ascend-merged (event ∷ common) own first second =
    order-after event (merged common) (λ owns order. ascend-merged common owns first.1 order)
    (λ n low owns each. each-merged (λ later. n ≤ later.at) common owns
    (Each-map (λ later. event.at ≤ later.at) (λ later. n ≤ later.at) (λ later more. omega (arith, more, low)) common first.0) each) own second

pub merged-list : (plan : Topology) (common own : List Event) → IsEventList plan common → IsEventList plan own → IsEventList plan (merged common own)
merged-list plan common own first second = record {
  fit = all-each (Fits plan) (merged common own) (each-merged (Fits plan) common own (each-all (Fits plan) common first.fit) (each-all (Fits plan) own second.fit));
  in_order = ordered-by (merged common own) (ascend-merged common own (ascend common first.in_order) (ascend own second.in_order));
}

-- those of a millisecond: the common ones, and then the own
none-early : (t : ℕ) (events : List Event) → Each (λ later. t < later.at) events → events_at t events ≡ []
none-early t events each =
    none-at t events (λ k other inside same. let late = all-each (λ later. t < later.at) events each k other inside in absurd (omega (arith, late, same)))

at-after : (t : ℕ) (event : Event) (rest : List Event → List Event) (common : List Event)
    → ((owns : List Event) → events_at t (rest owns) ≡ events_at t common ++ events_at t owns) → Each (λ later. event.at ≤ later.at) common
    → (own : List Event) → events_at t (after_earlier event rest own) ≡ events_at t (event ∷ common) ++ events_at t own
unfolding after_earlier
at-after t event rest common at order [] = of (nat_eq event.at t)
  where
    of : (b : Bool) → (if b then event ∷ events_at t (rest []) else events_at t (rest [])) ≡ (if b then event ∷ events_at t common else events_at t common) ++ []
    of true = ap (λ more. event ∷ more) (at [])
    of false = at []
at-after t event rest common at order (own ∷ owns) = elim (dec_lt own.at event.at) [
  | yes early ↦ rw (lt-ltb own.at event.at early) (before early (at-after t event rest common at order owns))
  | no late ↦ rw (le-ltb own.at event.at (omega (arith, late))) (of (nat_eq event.at t))
]
  where
    of : (b : Bool) → (if b then event ∷ events_at t (rest (own ∷ owns)) else events_at t (rest (own ∷ owns)))
        ≡ (if b then event ∷ events_at t common else events_at t common) ++ events_at t (own ∷ owns)
    of true = ap (λ more. event ∷ more) (at (own ∷ owns))
    of false = at (own ∷ owns)

    before : own.at < event.at → events_at t (after_earlier event rest owns) ≡ events_at t (event ∷ common) ++ events_at t owns
        → events_at t (own ∷ after_earlier event rest owns) ≡ events_at t (event ∷ common) ++ events_at t (own ∷ owns)
    before early later = elim (eqb_tells own.at t) [
      | inl same ↦
          let none : events_at t (event ∷ common) ≡ [] =
          none-early t (event ∷ common)
          (omega (arith, early, same.1), Each-map (λ one. event.at ≤ one.at) (λ one. t < one.at) (λ one more. omega (arith, more, early, same.1)) common order) in
          rw (same.0, none) (ap (λ more. own ∷ more) (later ∙ ap (λ front. front ++ events_at t owns) none))
      | inr other ↦ rw (other.0) later
    ]

pub at-merged : (t : ℕ) (common own : List Event) → Ascend common → events_at t (merged common own) ≡ events_at t common ++ events_at t own
unfolding merged
at-merged t [] own order = refl
at-merged t (event ∷ common) own order = at-after t event (merged common) common (λ owns. at-merged t common owns order.1) order.0 own

-- the earlier ones of a case are its first ones
pub after-split : (event : Event) (rest : List Event → List Event) (own : List Event) (count : ℕ) → count ≤ length own
    → ((k : ℕ) (other : Event) → k < count → (slice_index_or own k other).at < event.at)
    → ((other : Event) → count < length own → event.at ≤ (slice_index_or own count other).at)
    → after_earlier event rest own ≡ take count own ++ event ∷ rest (drop count own)
unfolding after_earlier
after-split event rest [] zero few early late = refl
after-split event rest [] (suc count) few early late = absurd (omega (arith, few))
after-split event rest (own ∷ owns) zero few early late = rw (le-ltb own.at event.at (late own (omega arith))) refl
after-split event rest (own ∷ owns) (suc count) few early late =
    rw (lt-ltb own.at event.at (early 0 own (omega arith)))
    (ap (λ more. own ∷ more)
    (after-split event rest owns count (omega (arith, few)) (λ k other before. early (suc k) other (omega (arith, before))) (λ other more. late other (omega (arith, more)))))

-- what stands in a list stands in its millisecond
pub stands-at : (events : List Event) (place : ℕ) (event : Event) → slice_get events place ≡ Some event → events_at event.at events ≢ []
stands-at [] place event at none = absurd (cc)
stands-at (first ∷ events) zero event at none =
    let same : first ≡ event = cc in
    elim (eqb_tells first.at event.at) [
      | inl same_time ↦ absurd (nonempty (nat_eq first.at event.at) same_time.0 none)
      | inr other ↦ absurd (other.1 (ap (λ (e : Event). e.at) same))
    ]
  where
    nonempty : (b : Bool) → b ≡ true → (if b then first ∷ events_at event.at events else events_at event.at events) ≡ [] → ⊥
    nonempty true is none = absurd (cc)
    nonempty false is none = absurd (cc)
stands-at (first ∷ events) (suc place) event at none = of (nat_eq first.at event.at) none (stands-at events place event at)
  where
    of : (b : Bool) → (if b then first ∷ events_at event.at events else events_at event.at events) ≡ [] → events_at event.at events ≢ [] → ⊥
    of true none later = absurd (cc)
    of false none later = later none
