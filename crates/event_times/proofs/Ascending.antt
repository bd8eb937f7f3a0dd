-- Events in order of time, one after another.
use Rattle.std.proofs.Common.{◌≡◌, ◌≤◌, ◌<◌, ℕ, zero, suc, Bool, true, false, List, [], ◌∷◌, length, arith}
use Rattle.std.specs.Prelude.{slice_index_or, nat_lt, if◌then◌else◌}
use Rattle.std.proofs.lemmas.List.Sorted.{all_adjacent_from_non_decreasing}
use Rattle.sync_text.specs.Each.{Each}
use Rattle.sync_text.proofs.Each.{each-all, all-each, Each-map, Each-filter}
use Rattle.sync_topo.specs.declared.event.Event.{Event}
use Rattle.sync_topo.specs.Events.{IsInOrder}
use Rattle.net_rules.specs.Signals.{events_before}
use Rattle.event_times.proofs.EventTimes.{in-order}

-- no event is later than one behind it
abbrev pub Ascend : List Event → Type 0
Ascend [] = Unit {0}
Ascend (event ∷ events) = Each (λ later. event.at ≤ later.at) events × Ascend events

ascend-by : (events : List Event)
    → ((i j : ℕ) (other : Event) → i ≤ j → j < length events → (slice_index_or events i other).at ≤ (slice_index_or events j other).at)
    → Ascend events
ascend-by [] order = tt
ascend-by (event ∷ events) order = (
  each-all (λ later. event.at ≤ later.at) events (λ k other inside. order 0 (suc k) other (omega arith) (omega (arith, inside))),
  ascend-by events (λ i j other before inside. order (suc i) (suc j) other (omega (arith, before)) (omega (arith, inside))),
)

pub ascend : (events : List Event) → IsInOrder events → Ascend events
ascend events ordered = ascend-by events (in-order events ordered)

ascended : (events : List Event) → Ascend events → (i j : ℕ) (other : Event) → i ≤ j → j < length events
    → (slice_index_or events i other).at ≤ (slice_index_or events j other).at
ascended [] order i j other before inside = absurd (omega (arith, inside))
ascended (event ∷ events) order zero zero other before inside = omega arith
ascended (event ∷ events) order zero (suc j) other before inside = all-each (λ later. event.at ≤ later.at) events order.0 j other (omega (arith, inside))
ascended (event ∷ events) order (suc i) zero other before inside = absurd (omega (arith, before))
ascended (event ∷ events) order (suc i) (suc j) other before inside = ascended events order.1 i j other (omega (arith, before)) (omega (arith, inside))

-- and so they are in order
pub ordered-by : (events : List Event) → Ascend events → IsInOrder events
ordered-by events order = all_adjacent_from_non_decreasing (λ (event : Event). event.at) events (ascended events order)

-- those before a millisecond are in order
pub ascend-before : (n : ℕ) (events : List Event) → Ascend events → Ascend (events_before n events)
ascend-before n [] order = tt
ascend-before n (event ∷ events) order = of (nat_lt event.at n) (ascend-before n events order.1)
  where
    kept : Each (λ later. event.at ≤ later.at) (events_before n events)
    kept =
        Each-map (λ later. (event.at ≤ later.at) × (nat_lt later.at n ≡ true)) (λ later. event.at ≤ later.at) (λ later both. both.0) (events_before n events)
        (Each-filter (λ later. event.at ≤ later.at) (λ later. nat_lt later.at n) events order.0)

    of : (b : Bool) → Ascend (events_before n events) → Ascend (if b then event ∷ events_before n events else events_before n events)
    of true rest = (kept, rest)
    of false rest = rest
