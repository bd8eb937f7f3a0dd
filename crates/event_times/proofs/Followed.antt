-- Events that follow others in time are those of their milliseconds.
use Rattle.std.proofs.Common.{◌≡◌, ◌≤◌, ◌<◌, ◌+◌, ◌-◌, ℕ, List, ◌++◌, length, ap, ◌∙◌, arith, length-append, refl}
use Rattle.std.specs.Prelude.{nat_eq, slice_index_or}
use Rattle.std.specs.List.{All}
use Rattle.std.proofs.Math.Decide.{dec_lt}
use Rattle.std.proofs.lemmas.List.{get_or_append_left, get_or-append_right}
use Rattle.std.proofs.lemmas.List.Elements.{All-append, filter-append}
use Rattle.std.proofs.lemmas.List.Sorted.{IsNonDecreasingBy-from_all_adjacent, all_adjacent_from_non_decreasing}
use Rattle.sync_topo.specs.declared.event.Event.{Event}
use Rattle.sync_topo.specs.Topology.{Topology}
use Rattle.sync_topo.specs.Events.{Fits, IsInOrder, IsEventList}
use Rattle.net_rules.specs.Signals.{events_at}
use Rattle.event_times.specs.EventTimes.{AreTold, AreWithin}
use Rattle.event_times.proofs.EventTimes.{none-at}

-- two lists in order, of which the first is earlier
joined-order : (before told : List Event) (from : ℕ) → IsInOrder before → IsInOrder told
    → All (λ event. event.at < from) before → All (λ event. from ≤ event.at) told
    → IsInOrder (before ++ told)
joined-order before told from first second early late =
    all_adjacent_from_non_decreasing (λ (event : Event). event.at) (before ++ told)
    (λ i j other order inside.
    by i j other order (omega (arith, inside, length-append before told)) (dec_lt i (length before))
    (dec_lt j (length before)))
  where
    at-first : (i : ℕ) (other : Event) → i < length before
        → slice_index_or (before ++ told) i other ≡ slice_index_or before i other
    at-first i other inside = get_or_append_left before told other i inside

    at-second : (i : ℕ) (other : Event) → length before ≤ i
        → slice_index_or (before ++ told) i other ≡ slice_index_or told (i - length before) other
    at-second i other beyond = get_or-append_right before told (length before) i other refl beyond

    by : (i j : ℕ) (other : Event) → i ≤ j → j < length before + length told
        → Dec (i < length before) → Dec (j < length before)
        → (slice_index_or (before ++ told) i other).at ≤ (slice_index_or (before ++ told) j
        other).at
    by i j other order inside (yes one) (yes two) =
        let result : (slice_index_or before i other).at ≤ (slice_index_or before j other).at =
        IsNonDecreasingBy-from_all_adjacent (λ (event : Event). event.at) before first i j other
        order two in
        omega (
          arith,
          result,
          ap (λ (event : Event). event.at) (at-first i other one),
          ap
              (λ (event : Event). event.at) (at-first j other two),
        )
    by i j other order inside (yes one) (no two) =
        let beyond : length before ≤ j = omega (arith, two) in
        let low : (slice_index_or before i other).at < from = early i other one in
        let high : from ≤ (slice_index_or told (j - length before) other).at = late
        (j - length before) other (omega (arith, inside, beyond)) in
        omega (
          arith,
          low,
          high,
          ap (λ (event : Event). event.at) (at-first i other one),
          ap
              (λ (event : Event). event.at) (at-second j other beyond),
        )
    by i j other order inside (no one) (yes two) = absurd (omega (arith, one, two, order))
    by i j other order inside (no one) (no two) =
        let before_i : length before ≤ i = omega (arith, one) in
        let before_j : length before ≤ j = omega (arith, two) in
        let result :
        (slice_index_or told (i - length before) other).at ≤ (slice_index_or told
        (j - length before) other).at =
        IsNonDecreasingBy-from_all_adjacent (λ (event : Event). event.at) told second
        (i - length before) (j - length before) other (omega (arith, order))
        (omega (arith, inside, before_j)) in
        omega (
          arith,
          result,
          ap (λ (event : Event). event.at) (at-second i other before_i),
          ap
              (λ (event : Event). event.at) (at-second j other before_j),
        )

-- events that follow others are those of their milliseconds
pub followed : (plan : Topology) (before told : List Event) (from until : ℕ)
    → IsEventList plan before → All (λ event. event.at < from) before
    → AreWithin plan from until told → AreTold plan (before ++ told) from until told
followed plan before told from until first early within = record {
  ordered = record {
    fit = All-append (Fits plan) before told first.fit within.list.fit;
    in_order = joined-order before told from first.in_order within.list.in_order early within.later;
  };
  here = λ t low high. filter-append (λ (event : Event). nat_eq event.at t) before told
      ∙ ap (λ (front : List Event). front ++ events_at t told)
      (none-at t before
      (λ k other inside at. let soon = early k other inside in absurd
      (omega (arith, soon, at, low))));
}
