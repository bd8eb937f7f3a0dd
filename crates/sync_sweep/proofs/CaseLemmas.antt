-- What a run is told, and when something happens in it last.
use Rattle.std.proofs.Common.{min, ◌≡◌, ◌≢◌, ◌≤◌, ◌<◌, ◌⊎◌, ◌+◌, ◌-◌, inl, inr, ℕ, zero, suc, List, [], ◌∷◌, ◌++◌, length, take, drop, refl, ap, sym, subst, ◌∙◌, arith}
use Rattle.std.specs.Prelude.{slice_get, slice_index_or, Some}
use Rattle.std.specs.List.{All}
use Rattle.std.proofs.Math.Nat.{le-min}
use Rattle.std.proofs.Math.Decide.{dec_lt}
use Rattle.std.proofs.lemmas.List.{get_or-drop, get_or-take, length-drop, length-take, take-append-drop}
use Rattle.std.proofs.lemmas.List.Elements.{All-drop, filter-append}
use Rattle.sync_topo.specs.declared.event.Event.{Event}
use Rattle.sync_topo.specs.Topology.{Topology}
use Rattle.sync_topo.specs.Events.{Fits, IsInOrder, IsEventList}
use Rattle.net_rules.specs.Signals.{events_at}
use Rattle.net_rules.specs.Settling.{IsGreatest}
use Rattle.event_times.specs.EventTimes.{AreTold, AreWithin}
use Rattle.event_times.proofs.EventTimes.{in-order, none-at}
use Rattle.sync_sweep.specs.Cases.{merged, IsTimeUntil, IsLastUntil}
use Rattle.sync_sweep.specs.OnWay.{before_own}
use Rattle.sync_sweep.proofs.ChunkLemmas.{got}
use Rattle.event_times.proofs.Ascending.{ascend}
use Rattle.sync_sweep.proofs.Merging.{at-merged, each-merged, merged-list, stands-at}
use Rattle.sync_text.proofs.Each.{each-all, all-each}
use Rattle.std.proofs.lemmas.List.Sorted.{all_adjacent_from_non_decreasing}

-- the events from the first that is not before a millisecond
pub later-same : (events : List Event) (count from : ℕ) → ((k : ℕ) (other : Event) → k < count → (slice_index_or events k other).at < from) → count ≤ length events
    → (t : ℕ) → from ≤ t → events_at t events ≡ events_at t (drop count events)
later-same events count from early few t low =
    let none : events_at t (take count events) ≡ [] =
    none-at t (take count events) (λ k other inside same.
    let before : k < count = omega (arith, inside, length-take count events, few) in
    let here : slice_index_or (take count events) k other ≡ slice_index_or events k other = get_or-take count events k other before in
    absurd (omega (arith, early k other before, ap (λ (e : Event). e.at) here, same, low))) in
    ap (events_at t) (sym (take-append-drop count events))
    ∙ filter-append (λ (event : Event). _) (take count events) (drop count events)
    ∙ ap (λ front. front ++ events_at t (drop count events)) none

pub later-within : (plan : Topology) (events : List Event) (count from until : ℕ) → AreWithin plan 0 until events
    → ((other : Event) → count < length events → from ≤ (slice_index_or events count other).at) → AreWithin plan from until (drop count events)
later-within plan events count from until within late = record {
  list = record {
    fit = All-drop (Fits plan) count events within.list.fit;
    in_order = all_adjacent_from_non_decreasing (λ (event : Event). event.at) (drop count events) (λ i j other before inside.
        let here : slice_index_or (drop count events) i other ≡ slice_index_or events (count + i) other = get_or-drop count events i other in
        let there : slice_index_or (drop count events) j other ≡ slice_index_or events (count + j) other = get_or-drop count events j other in
        let order = in-order events within.list.in_order (count + i) (count + j) other (omega (arith, before)) (omega (arith, inside, length-drop count events)) in
        omega (arith, order, ap (λ (e : Event). e.at) here, ap (λ (e : Event). e.at) there));
  };
  later = λ k other inside.
      let here : slice_index_or (drop count events) k other ≡ slice_index_or events (count + k) other = get_or-drop count events k other in
      let whole : count + k < length events = omega (arith, inside, length-drop count events) in
      let order = in-order events within.list.in_order count (count + k) other (omega arith) whole in
      omega (arith, order, late other (omega (arith, whole)), ap (λ (e : Event). e.at) here);
  up_to = All-drop (λ (event : Event). event.at ≤ until) count events within.up_to;
}

-- what is told of a run, by what is told of all runs and of the case
pub told-merged : (plan : Topology) (common own shared alone : List Event) (from until : ℕ) → IsEventList plan common → IsEventList plan own
    → ((t : ℕ) → from ≤ t → t ≤ until → events_at t common ≡ events_at t shared) → ((t : ℕ) → from ≤ t → t ≤ until → events_at t own ≡ events_at t alone)
    → AreWithin plan from until shared → AreTold plan (merged common own) from until (merged shared alone)
told-merged plan common own shared alone from until first second same_common same_own within = record {
  ordered = merged-list plan common own first second;
  here = λ t low high.
      at-merged t common own (ascend common first.in_order)
      ∙ ap (λ front. front ++ events_at t own) (same_common t low high)
      ∙ ap (λ back. events_at t shared ++ back) (same_own t low high)
      ∙ sym (at-merged t shared alone (ascend shared within.list.in_order));
}

pub within-merged : (plan : Topology) (shared alone : List Event) (from until : ℕ) → AreWithin plan from until shared → AreWithin plan from until alone
    → AreWithin plan from until (merged shared alone)
within-merged plan shared alone from until first second = record {
  list = merged-list plan shared alone first.list second.list;
  later = all-each (λ (event : Event). from ≤ event.at) (merged shared alone)
      (each-merged (λ (event : Event). from ≤ event.at) shared alone (each-all (λ (event : Event). from ≤ event.at) shared first.later) (each-all (λ (event : Event). from ≤ event.at) alone second.later));
  up_to = all-each (λ (event : Event). event.at ≤ until) (merged shared alone)
      (each-merged (λ (event : Event). event.at ≤ until) shared alone (each-all (λ (event : Event). event.at ≤ until) shared first.up_to) (each-all (λ (event : Event). event.at ≤ until) alone second.up_to));
}

-- the last event is the last to happen
pub last-happens : (events : List Event) (event : Event) → IsInOrder events → slice_get events (length events - 1) ≡ Some event
    → IsGreatest (λ t. events_at t events ≢ []) event.at
last-happens events event ordered at = record {
  most = λ t happens. elim (dec_lt event.at t) [
    | yes past ↦ absurd (happens (none-at t events (λ k other inside same.
        let there = got events (length events - 1) event event at in
        let order = in-order events ordered k (length events - 1) event (omega (arith, inside)) there.0 in
        let here : slice_index_or events k event ≡ slice_index_or events k other = index-same events k event other inside in
        absurd (omega (arith, order, ap (λ (e : Event). e.at) there.1, ap (λ (e : Event). e.at) here, same, past)))))
    | no early ↦ omega (arith, early)
  ];
  reached = inr (stands-at events (length events - 1) event at);
}
  where
    index-same : (events : List Event) (k : ℕ) (a b : Event) → k < length events → slice_index_or events k a ≡ slice_index_or events k b
    index-same [] k a b inside = absurd (omega (arith, inside))
    index-same (e ∷ es) zero a b inside = refl
    index-same (e ∷ es) (suc k) a b inside = index-same es k a b (omega (arith, inside))

-- the last of a run, by those of both
pub last-merged : (plan : Topology) (common own shared alone : List Event) (until one other last : ℕ) → IsEventList plan common
    → AreTold plan common 0 until shared → AreTold plan own 0 until alone → AreWithin plan 0 until shared → AreWithin plan 0 until alone
    → IsGreatest (λ t. events_at t shared ≢ []) one → IsGreatest (λ t. events_at t alone ≢ []) other
    → one ≤ last → other ≤ last → (last ≡ one) ⊎ (last ≡ other) → IsLastUntil (merged common own) until last
last-merged plan common own shared alone until one other last ordered told_shared told_alone within_shared within_alone first second low high is = record {
  most = λ t time. elim (dec_lt last t) [
    | yes past ↦
        let none_shared : events_at t shared ≡ [] = none-past t shared one first (omega (arith, low, past)) in
        let none_alone : events_at t alone ≡ [] = none-past t alone other second (omega (arith, high, past)) in
        absurd (time.1 (whole t time.0 ∙ ap (λ front. front ++ events_at t alone) none_shared ∙ none_alone))
    | no early ↦ omega (arith, early)
  ];
  reached = of is first.reached second.reached;
}
  where
    whole : (t : ℕ) → t ≤ until → events_at t (merged common own) ≡ events_at t shared ++ events_at t alone
    whole t up_to =
        at-merged t common own (ascend common ordered.in_order)
        ∙ ap (λ front. front ++ events_at t own) (told_shared.here t (omega arith) up_to)
        ∙ ap (λ back. events_at t shared ++ back) (told_alone.here t (omega arith) up_to)

    -- nothing happens after the last
    none-past : (t : ℕ) (events : List Event) (greatest : ℕ) → IsGreatest (λ t. events_at t events ≢ []) greatest → greatest < t → events_at t events ≡ []
    none-past t events greatest is past = by (events_at t events) refl
      where
        by : (list : List Event) → events_at t events ≡ list → list ≡ []
        by [] same = refl
        by (event ∷ rest) same = absurd (let most = is.most t (λ none. absurd (cc)) in omega (arith, most, past))

    within-time : (t : ℕ) (events : List Event) → AreWithin plan 0 until events → events_at t events ≢ [] → t ≤ until
    within-time t events within happens = elim (dec_lt until t) [
      | yes past ↦ absurd (happens (none-at t events (λ k one inside same. absurd (omega (arith, within.up_to k one inside, same, past)))))
      | no early ↦ omega (arith, early)
    ]

    nonempty-left : (xs ys : List Event) → xs ≢ [] → xs ++ ys ≢ []
    nonempty-left [] ys some none = some refl
    nonempty-left (x ∷ xs) ys some none = absurd (cc)

    nonempty-right : (xs ys : List Event) → ys ≢ [] → xs ++ ys ≢ []
    nonempty-right [] ys some none = some none
    nonempty-right (x ∷ xs) ys some none = absurd (cc)

    of : (last ≡ one) ⊎ (last ≡ other) → (one ≡ 0) ⊎ (events_at one shared ≢ []) → (other ≡ 0) ⊎ (events_at other alone ≢ [])
        → (last ≡ 0) ⊎ IsTimeUntil (merged common own) until last
    of (inl same) (inl none) other_is = inl (same ∙ none)
    of (inl same) (inr happens) other_is =
        let up_to : one ≤ until = within-time one shared within_shared happens in
        inr (subst (IsTimeUntil (merged common own) until) (sym same)
        (up_to, λ none. nonempty-left (events_at one shared) (events_at one alone) happens (sym (whole one up_to) ∙ none)))
    of (inr same) one_is (inl none) = inl (same ∙ none)
    of (inr same) one_is (inr happens) =
        let up_to : other ≤ until = within-time other alone within_alone happens in
        inr (subst (IsTimeUntil (merged common own) until) (sym same)
        (up_to, λ none. nonempty-right (events_at other shared) (events_at other alone) happens (sym (whole other up_to) ∙ none)))

-- it isn't after the end
pub last-early : (events : List Event) (until last : ℕ) → IsLastUntil events until last → last ≤ until
last-early events until last is = elim is.reached [
  | inl none ↦ omega (arith, none)
  | inr time ↦ time.0
]

-- what comes before a case's own events isn't before where its run begins
pub before-late : (own : List Event) (from until : ℕ) → All (λ event. from ≤ event.at) own → from ≤ until → from ≤ before_own own until + 1
before-late [] from until later in_order = omega (arith, in_order)
before-late (event ∷ events) from until later in_order =
    let first : from ≤ event.at = later 0 event (omega arith) in
    let least : from - 1 ≤ min (event.at - 1) until = le-min (omega (arith, first)) (omega (arith, in_order)) in
    omega (arith, least)

-- what is told up to a millisecond, and what is told after it
pub told-first : (plan : Topology) (all told first middle : List Event) (from before until : ℕ) → before ≤ until → AreTold plan all from until told → AreTold plan told 0 before middle
    → ((t : ℕ) → from ≤ t → events_at t middle ≡ events_at t first) → AreTold plan all from before first
told-first plan all told first middle from before until in_order are up_to later = record {
  ordered = are.ordered;
  here = λ t low high. are.here t low (omega (arith, high, in_order)) ∙ up_to.here t (omega arith) high ∙ later t low;
}

pub told-rest : (plan : Topology) (all told rest : List Event) (from before until : ℕ) → from ≤ before + 1 → AreTold plan all from until told
    → ((t : ℕ) → before + 1 ≤ t → events_at t told ≡ events_at t rest) → AreTold plan all (before + 1) until rest
told-rest plan all told rest from before until begun are later = record {
  ordered = are.ordered;
  here = λ t low high. are.here t (omega (arith, begun, low)) high ∙ later t low;
}
