-- The events up to a millisecond are those that a run up to it is told.
use Rattle.std.proofs.Common.{◌≡◌, ◌≤◌, ◌<◌, ◌+◌, ℕ, List, ◌++◌, length, take, drop, ap, sym, ◌∙◌, arith}
use Rattle.std.specs.Prelude.{nat_eq, slice_index_or}
use Rattle.std.specs.List.{All}
use Rattle.std.proofs.lemmas.List.{get_or-drop, get_or-take, length-drop, length-take, append-nil, take-append-drop}
use Rattle.std.proofs.lemmas.List.Elements.{All-take, filter-append}
use Rattle.std.proofs.lemmas.List.Sorted.{IsNonDecreasingBy-from_all_adjacent, IsNonDecreasingBy-take, all_adjacent_from_non_decreasing}
use Rattle.sync_topo.specs.declared.event.Event.{Event}
use Rattle.sync_topo.specs.Topology.{Topology}
use Rattle.sync_topo.specs.Events.{Fits, IsEventList}
use Rattle.net_rules.specs.Signals.{events_at}
use Rattle.event_times.specs.EventTimes.{AreTold, AreWithin}
use Rattle.event_times.proofs.EventTimes.{in-order, none-at}

module _ (plan : Topology) (until count : ℕ) (events : List Event) (list : IsEventList plan events)
    (few : count ≤ length events)
    (here : (k : ℕ) (other : Event) → k < count → (slice_index_or events k other).at ≤ until)
    (later : (other : Event) → count < length events
    → until < (slice_index_or events count other).at) where
  -- they stand in order up to it
  pub are-within : AreWithin plan 0 until (take count events)
  are-within = record {
    list = record {
      fit = All-take (Fits plan) count events list.fit;
      in_order = all_adjacent_from_non_decreasing (λ (event : Event). event.at) (take count events)
          (IsNonDecreasingBy-take (λ (event : Event). event.at) count events
          (IsNonDecreasingBy-from_all_adjacent (λ (event : Event). event.at) events list.in_order));
    };
    later = λ k other inside. omega arith;
    up_to = λ k other inside.
        let before : k < count = omega (arith, inside, length-take count events, few) in
        let same : slice_index_or (take count events) k other ≡ slice_index_or events k
        other = get_or-take count events k other before in
        omega (arith, ap (λ (event : Event). event.at) same, here k other before);
  }

  -- the others are later
  back-later : All (λ event. until < event.at) (drop count events)
  back-later k other inside =
      let within_all : count + k < length events = omega
      (arith, inside, length-drop count events) in
      let same : slice_index_or (drop count events) k other ≡ slice_index_or events (count + k)
      other = get_or-drop count events k other in
      let first : until < (slice_index_or events count other).at = later other
      (omega (arith, within_all)) in
      let order :
      (slice_index_or events count other).at ≤ (slice_index_or events (count + k) other).at =
      in-order events list.in_order count (count + k) other (omega arith) within_all in
      omega (arith, ap (λ (event : Event). event.at) same, first, order)

  -- so up to it they are all events
  pub are-told : AreTold plan events 0 until (take count events)
  are-told = record {
    ordered = list;
    here = λ t low high.
        ap (events_at t) (sym (take-append-drop count events))
        ∙ filter-append (λ (event : Event). nat_eq event.at t) (take count events)
        (drop count events)
        ∙ ap (λ (back : List Event). events_at t (take count events) ++ back)
        (none-at t (drop count events)
        (λ k other inside same. let late = back-later k other inside in absurd
        (omega (arith, late, same, high))))
        ∙ append-nil (events_at t (take count events));
  }
