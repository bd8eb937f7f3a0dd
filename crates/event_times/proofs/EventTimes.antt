-- Which events come next, and how a list of events is parted by time.
use Rattle.std.proofs.Common.{◌≡◌, ◌≢◌, ◌≤◌, ◌<◌, ◌+◌, ◌⊎◌, inl, inr, ℕ, suc, Bool, true, false, ◌||◌, List, [], ◌∷◌, ◌++◌, length, filter, take, drop, refl, ap, sym, subst, ◌∙◌, arith, add-one}
use Rattle.std.specs.Prelude.{nat_eq, slice_get, slice_index_or, Option, None, Some, IfSome}
use Rattle.std.specs.List.{All, list_any}
use Rattle.std.proofs.lemmas.Bool.{eq-eqb, eqb-true}
use Rattle.std.proofs.lemmas.Bool.Decides.{eqb_tells}
use Rattle.std.proofs.lemmas.List.{get_or-drop, get_or-take, length-drop, length-take, append-nil, take-append-drop}
use Rattle.std.proofs.lemmas.List.Elements.{All-drop, All-filter, filter-append, filter_passes}
use Rattle.std.proofs.lemmas.List.Sorted.{IsNonDecreasingBy-from_all_adjacent, IsNonDecreasingBy-drop, all_adjacent_from_non_decreasing}
use Rattle.sync_text.proofs.Each.{each-all, filter-none}
use Rattle.sync_text.specs.Each.{Each}
use Rattle.sync_topo.specs.declared.event.Event.{Event}
use Rattle.sync_topo.specs.Topology.{Topology}
use Rattle.sync_topo.specs.Events.{Fits, IsInOrder}
use Rattle.net_rules.specs.Signals.{events_at}
use Rattle.event_times.specs.EventTimes.{AreWithin, AreTold, AreBetween, AreHere, AreNext, IsNextTime}
use Rattle.event_times.specs.private.EventTimes.{AreParted}

-- an earlier one of a list in order is no later
pub in-order : (events : List Event) → IsInOrder events → (i j : ℕ) (other : Event) → i ≤ j
    → j < length events
    → (slice_index_or events i other).at ≤ (slice_index_or events j other).at
in-order events ordered i j other early inside = IsNonDecreasingBy-from_all_adjacent
    (λ (event : Event). event.at) events ordered i j other early inside

-- what is due up to a millisecond is due no earlier than one before it
pub sooner : (due : Option ℕ) (k now : ℕ) → k ≤ now → IfSome due (λ d. now ≤ d)
    → IfSome due (λ d. k ≤ d)
sooner None k now high is = tt
sooner (Some d) k now high is = omega (arith, high, is)

-- the first event, where it is earlier than all else
pub next-event : (next until last : ℕ) (rest : List Event) (due : Option ℕ) (event : Event)
    → Some event ≡ slice_get rest 0
    → IsInOrder rest → All (λ event. next ≤ event.at) rest → next ≢ 0 → event.at < last
    → last ≤ until → IfSome due (λ d. last ≤ d)
    → IsNextTime next rest due until event.at
next-event next until last [] due event first ordered low begun before end until_due = absurd (cc)
next-event next until last (e ∷ events) due event first ordered low begun before end until_due =
    let same : event ≡ e = cc in
    record {
      first = λ none. absurd (begun none);
      later = subst (λ (one : Event). next ≤ one.at) (sym same) (low 0 e (omega arith));
      up_to = omega (arith, before, end);
      until_due = sooner due event.at last (omega (arith, before)) until_due;
      until_event = λ k other inside. subst
          (λ (one : Event). one.at ≤ (slice_index_or (e ∷ events) k other).at) (sym same)
          (in-order (e ∷ events) ordered 0 k other (omega arith) inside);
      cause = inr (inr
          (inl (ap (λ (b : Bool). b || list_any (λ (one : Event). nat_eq one.at event.at) events)
          (subst (λ (one : Event). nat_eq one.at event.at ≡ true) same
          (eq-eqb event.at event.at refl)))));
    }

-- what is due or the end, where no event is earlier
pub next-last : (next until last : ℕ) (rest : List Event) (due : Option ℕ) (event : Event)
    → Some event ≡ slice_get rest 0
    → IsInOrder rest → next ≢ 0 → last ≤ event.at → next ≤ until → IfSome due (λ d. next ≤ d)
    → last ≤ until → IfSome due (λ d. last ≤ d) → (last ≡ until) ⊎ (due ≡ Some last)
    → IsNextTime next rest due until last
next-last next until last [] due event first in_order begun before started due_later end until_due
    cause = absurd (cc)
next-last next until last (e ∷ events) due event first in_order begun before started due_later end
    until_due cause =
    let same : event ≡ e = cc in
    let early : last ≤ e.at = subst (λ (one : Event). last ≤ one.at) same before in
    record {
      first = λ none. absurd (begun none);
      later = of due due_later cause;
      up_to = end;
      until_due = until_due;
      until_event = λ k other inside.
          let ordered : e.at ≤ (slice_index_or (e ∷ events) k other).at = in-order (e ∷ events)
          in_order 0 k other (omega arith) inside in
          omega (arith, early, ordered);
      cause = causes cause;
    }
  where
    of : (due : Option ℕ) → IfSome due (λ d. next ≤ d) → (last ≡ until) ⊎ (due ≡ Some last)
        → next ≤ last
    of due is (inl same) = omega (arith, started, same)
    of None is (inr same) = absurd (cc)
    of (Some d) is (inr same) = let equal : d ≡ last = cc in omega (arith, is, equal)

    causes : (last ≡ until) ⊎ (due ≡ Some last)
        → (next ≡ 0) ⊎
        ((last ≡ until) ⊎
        ((list_any (λ (one : Event). nat_eq one.at last) (e ∷ events) ≡ true) ⊎ (due ≡ Some last)))
    causes (inl same) = inr (inl same)
    causes (inr same) = inr (inr (inr same))

-- where all pass, all are kept, and where none does, none
filter-each : (p : Event → Bool) (events : List Event) → Each (λ event. p event ≡ true) events
    → filter p events ≡ events
filter-each p [] each = refl
filter-each p (event ∷ events) each = rw (each.0, filter-each p events each.1) refl

pub none-at : (t : ℕ) (events : List Event) → All (λ event. event.at ≢ t) events
    → events_at t events ≡ []
none-at t events all = filter-none (λ event. nat_eq event.at t) events
    (each-all (λ event. nat_eq event.at t ≡ false) events
    (λ k other inside. elim (eqb_tells (slice_index_or events k other).at t) [
      | inl same ↦ absurd (all k other inside same.1)
      | inr apart ↦ apart.0
    ]))

all-at : (t : ℕ) (events : List Event) → All (λ event. event.at ≡ t) events
    → events_at t events ≡ events
all-at t events all = filter-each (λ event. nat_eq event.at t) events
    (each-all (λ event. nat_eq event.at t ≡ true) events
    (λ k other inside. eq-eqb (slice_index_or events k other).at t (all k other inside)))

-- the events before the first later one, and those from it on
module _ (now until count : ℕ) (events : List Event)
    (between : AreBetween now until events) (few : count ≤ length events)
    (here : (k : ℕ) (other : Event) → k < count → (slice_index_or events k other).at ≤ now)
    (later : (other : Event) → count < length events → now < (slice_index_or events count other).at)
  where
    front-at : All (λ event. event.at ≡ now) (take count events)
    front-at k other inside =
        let before : k < count = omega (arith, inside, length-take count events, few) in
        let same : slice_index_or (take count events) k other ≡ slice_index_or events k
        other = get_or-take count events k other before in
        let low : now ≤ (slice_index_or events k other).at = between.later k other
        (omega (arith, before, few)) in
        let high : (slice_index_or events k other).at ≤ now = here k other before in
        ap (λ (event : Event). event.at) same ∙ omega (arith, low, high)

    back-later : All (λ event. suc now ≤ event.at) (drop count events)
    back-later k other inside =
        let within_all : count + k < length events = omega
        (arith, inside, length-drop count events) in
        let same : slice_index_or (drop count events) k other ≡ slice_index_or events (count + k)
        other = get_or-drop count events k other in
        let first : now < (slice_index_or events count other).at = later other
        (omega (arith, within_all)) in
        let order :
        (slice_index_or events count other).at ≤ (slice_index_or events (count + k) other).at =
        in-order events between.in_order count (count + k) other (omega arith) within_all in
        let result : suc now ≤ (slice_index_or events (count + k) other).at = omega
        (arith, first, order) in
        subst (λ (event : Event). suc now ≤ event.at) (sym same) result

    whole : (t : ℕ) → events_at t events ≡ events_at t (take count events) ++ events_at t
        (drop count events)
    whole t = ap (events_at t) (sym (take-append-drop count events))
        ∙ filter-append (λ (event : Event). nat_eq event.at t) (take count events) (drop count events)

    pub parted : AreParted now until events (take count events) (drop count events)
    parted = record {
      here = whole now
          ∙ ap (λ (back : List Event). events_at now (take count events) ++ back)
          (none-at now (drop count events)
          (λ k other inside same. let late = back-later k other inside in absurd
          (omega (arith, late, same))))
          ∙ append-nil (events_at now (take count events))
          ∙ all-at now (take count events) front-at;
      rest = λ t after. whole t ∙ ap
          (λ (front : List Event). front ++ events_at t (drop count events))
          (none-at t (take count events)
          (λ k other inside same. let at = front-at k other inside in absurd
          (omega (arith, at, same, after))));
      between = record {
        in_order = all_adjacent_from_non_decreasing (λ (event : Event). event.at)
            (drop count events)
            (IsNonDecreasingBy-drop (λ (event : Event). event.at) count events
            (IsNonDecreasingBy-from_all_adjacent (λ (event : Event). event.at) events
            between.in_order));
        later = back-later;
        up_to = All-drop (λ event. event.at ≤ until) count events between.up_to;
      };
    }

-- events that stand within two milliseconds are all that a run between them is told
pub told-itself : (plan : Topology) (from until : ℕ) (events : List Event)
    → AreWithin plan from until events → AreTold plan events from until events
told-itself plan from until events within = record
    { ordered = within.list; here = λ t low high. refl }

-- from one millisecond to the next in which something happens
module _ (rest here later : List Event) (next until now : ℕ) (due : Option ℕ)
    (is : IsNextTime next rest due until now) (between : AreBetween next until rest)
    (split : (end : ℕ) → AreBetween now end rest → AreParted now end rest here later) where
  parts : AreParted now until rest here later
  parts = split until
      (record { in_order = between.in_order; later = is.until_event; up_to = between.up_to })

  -- the events that are left are later
  pub later-between : AreBetween (now + 1) until later
  later-between = subst (λ from. AreBetween from until later) (sym (add-one now)) parts.between

  -- for all events of which those that are left are told
  module _ (plan : Topology) (all : List Event) (told : AreTold plan all next until rest) where
    are-here : AreHere plan all now here
    are-here = record
        { ordered = told.ordered; here = told.here now is.later is.up_to ∙ parts.here }

    -- there are no events in between, and these stand there
    pub are-next : AreNext plan all next now here
    are-next = record {
      none = λ t low high. told.here t low (omega (arith, high, is.up_to))
          ∙ none-at t rest
          (λ k other inside at. let late = is.until_event k other inside in absurd
          (omega (arith, late, at, high)));
      here = are-here;
      fit = subst (All (Fits plan)) are-here.here
          (All-filter (λ (event : Event). nat_eq event.at now) (Fits plan) all told.ordered.fit);
      at = subst (All (λ event. event.at ≡ now)) are-here.here
          (λ k other inside. eqb-true
          (slice_index_or (events_at now all) k other).at now
          (filter_passes (λ (event : Event). nat_eq event.at now) all k other inside));
    }

    -- and the later ones are those that are left
    pub later-told : AreTold plan all (now + 1) until later
    later-told = record {
      ordered = told.ordered;
      here = λ t low high. told.here t (let first = is.later in omega (arith, first, low)) high
          ∙ parts.rest t (omega (arith, low));
    }
