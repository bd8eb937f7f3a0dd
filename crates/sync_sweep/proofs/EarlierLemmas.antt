-- The events of a run up to a millisecond.
use Rattle.std.proofs.Common.{◌≡◌, ◌≢◌, ◌≤◌, ◌<◌, ◌⊎◌, inl, inr, ℕ, suc, Bool, true, false, List, [], ◌∷◌, Option, Some, None, refl, ap, ◌∙◌, arith}
use Rattle.std.specs.Prelude.{nat_eq, nat_lt, if◌then◌else◌, IfSome}
use Rattle.std.proofs.Math.Decide.{dec_lt}
use Rattle.std.proofs.lemmas.Bool.{lt-ltb, le-ltb}
use Rattle.std.proofs.lemmas.Bool.Decides.{eqb_tells}
use Rattle.std.proofs.lemmas.List.Elements.{All-filter}
use Rattle.sync_text.specs.Each.{Each}
use Rattle.sync_text.proofs.Each.{all-each}
use Rattle.sync_topo.specs.declared.event.Event.{Event}
use Rattle.sync_topo.specs.Topology.{Topology}
use Rattle.sync_topo.specs.Events.{Fits, IsEventList}
use Rattle.net_rules.specs.Signals.{events_at, events_before}
use Rattle.net_rules.specs.Settling.{NoneAfter, IsSettlingBound}
use Rattle.event_times.specs.EventTimes.{AreTold}
use Rattle.event_times.proofs.Ascending.{ascend, ascend-before, ordered-by}
use Rattle.sync_sweep.specs.private.Base.{AreCommonBefore}
use Rattle.sync_sweep.specs.Cases.{IsLastUntil}
use Rattle.sync_sweep.specs.Outcomes.{IsBoundAfter}

-- an earlier millisecond has the same events
pub at-before : (n t : ℕ) (events : List Event) → t < n → events_at t (events_before n events) ≡ events_at t events
at-before n t [] early = refl
at-before n t (event ∷ events) early = elim (dec_lt event.at n) [
  | yes inside ↦ rw (lt-ltb event.at n inside) (of (nat_eq event.at t) (at-before n t events early))
  | no late ↦
      let past : n ≤ event.at = omega (arith, late) in
      elim (eqb_tells event.at t) [
        | inl same ↦ absurd (omega (arith, same.1, early, past))
        | inr other ↦ rw (le-ltb event.at n past, other.0) (at-before n t events early)
      ]
]
  where
    of : (b : Bool) → events_at t (events_before n events) ≡ events_at t events
        → (if b then event ∷ events_at t (events_before n events) else events_at t (events_before n events)) ≡ (if b then event ∷ events_at t events else events_at t events)
    of true same = ap (λ more. event ∷ more) same
    of false same = same

list-before : (plan : Topology) (n : ℕ) (events : List Event) → IsEventList plan events → IsEventList plan (events_before n events)
list-before plan n events list = record {
  fit = All-filter (λ (event : Event). nat_lt event.at n) (Fits plan) events list.fit;
  in_order = ordered-by (events_before n events) (ascend-before n events (ascend events list.in_order));
}

-- so a run that is told some events up to a millisecond is told those of all up to it
pub told-before : (plan : Topology) (all : List Event) (from until : ℕ) (told : List Event) → AreTold plan all from until told
    → AreTold plan (events_before (suc until) all) from until told
told-before plan all from until told are = record {
  ordered = list-before plan (suc until) all are.ordered;
  here = λ t low high. at-before (suc until) t all (omega (arith, high)) ∙ are.here t low high;
}

pub common-before-end : (plan : Topology) (common : List Event) (from until : ℕ) (all : List Event) → from ≤ until → AreCommonBefore plan common from all
    → AreCommonBefore plan common from (events_before (suc until) all)
common-before-end plan common from until all early are = record {
  ordered = list-before plan (suc until) all are.ordered;
  here = λ t low. at-before (suc until) t all (omega (arith, low, early)) ∙ are.here t low;
}

-- what stands there happens in its millisecond
here-happens : (n : ℕ) (events : List Event) → Each (λ event. (event.at < n) × (events_at event.at events ≢ [])) (events_before n events)
here-happens n events = each events (λ t some. some)
  where
    nonempty : (t : ℕ) (event : Event) (more : List Event) (b : Bool) → b ≡ true → (if b then event ∷ events_at t more else events_at t more) ≡ [] → ⊥
    nonempty t event more true is none = absurd (cc)
    nonempty t event more false is none = absurd (cc)

    keeps : (t : ℕ) (event : Event) (more : List Event) (b : Bool) → events_at t more ≢ [] → (if b then event ∷ events_at t more else events_at t more) ≡ [] → ⊥
    keeps t event more true some none = absurd (cc)
    keeps t event more false some none = some none

    each : (rest : List Event) → ((t : ℕ) → events_at t rest ≢ [] → events_at t events ≢ [])
        → Each (λ event. (event.at < n) × (events_at event.at events ≢ [])) (events_before n rest)
    each [] leads = tt
    each (event ∷ rest) leads = elim (dec_lt event.at n) [
      | yes inside ↦ rw (lt-ltb event.at n inside) (
        (inside, leads event.at (nonempty event.at event rest (nat_eq event.at event.at) (itself (eqb_tells event.at event.at)))),
        each rest (λ t some. leads t (keeps t event rest (nat_eq event.at t) some)),
      )
      | no late ↦ rw (le-ltb event.at n (omega (arith, late))) (each rest (λ t some. leads t (keeps t event rest (nat_eq event.at t) some)))
    ]
      where
        itself : (nat_eq event.at event.at ≡ true) × (event.at ≡ event.at) ⊎ (nat_eq event.at event.at ≡ false) × (event.at ≢ event.at) → nat_eq event.at event.at ≡ true
        itself (inl same) = same.0
        itself (inr other) = absurd (other.1 refl)

-- none of them is later than the last
pub none-late : (events : List Event) (until last : ℕ) → IsLastUntil events until last → NoneAfter (events_before (suc until) events) last
none-late events until last is =
    all-each (λ event. event.at ≤ last) (events_before (suc until) events) (by (events_before (suc until) events) (here-happens (suc until) events))
  where
    by : (list : List Event) → Each (λ event. (event.at < suc until) × (events_at event.at events ≢ [])) list → Each (λ event. event.at ≤ last) list
    by [] each = tt
    by (event ∷ list) each = (is.most event.at (omega (arith, each.0.0), each.0.1), by list each.1)

-- from a settling bound on it is settled, where there is one
pub settled-by : (plan : Topology) (last now : ℕ) (bound : Option ℕ) (settled : Bool) → IsBoundAfter plan last bound
    → ((by : ℕ) → IsSettlingBound plan last by → by ≤ now → settled ≡ true) → IfSome bound (λ by. by ≤ now → settled ≡ true)
settled-by plan last now None settled is law = tt
settled-by plan last now (Some bound) settled is law = law bound is
