-- There is one outcome of some events.
use Rattle.std.proofs.Common.{◌≡◌, ◌≤◌, ℕ, Bool, true, false, List, length, Option, None, Some, refl, sym, ap, subst, ◌∙◌, inl, inr, arith}
use Rattle.std.specs.Prelude.{◌↔◌}
use Rattle.sync_sweep.proofs.CountLemmas.{same-level}
use Rattle.sync_ql.specs.declared.levels.Level.{Level}
use Rattle.sync_topo.specs.declared.event.Event.{Event}
use Rattle.sync_topo.specs.Topology.{Topology}
use Rattle.net_rules.specs.Walks.{Taken}
use Rattle.net_rules.specs.Settling.{IsGreatest, IsDelay, IsRank, IsWait, IsSettlingBound, settled_from}
use Rattle.closed_walks.proofs.OneList.{one-loops}
use Rattle.sync_sweep.specs.declared.outcomes.Outcome.{Outcome}
use Rattle.sync_sweep.specs.Cases.{IsTimeUntil}
use Rattle.sync_sweep.specs.Outcomes.{IsWorstOf, AreSoManyLoops, IsShown, IsBoundAfter, IsOutcome, taken_by}

-- what says the same of one thing is the same
one-truth : (P : Type 0) (one other : Bool) → (one ≡ true) ↔ P → (other ≡ true) ↔ P → one ≡ other
one-truth P true true first second = refl
one-truth P false false first second = refl
one-truth P true false first second = sym (second.1 (first.0 refl))
one-truth P false true first second = first.1 (second.0 refl)

-- there is one worst level
one-worst : (plan : Topology) (events : List Event) (t n : ℕ) (a b : Level) → IsWorstOf plan events t n a → IsWorstOf plan events t n b → a ≡ b
one-worst plan events t n a b first second =
    let low = first.none_worse second.element second.within in
    let high = second.none_worse first.element first.within in
    let here = ap (λ (l : Level). l.place) first.has in
    let there = ap (λ (l : Level). l.place) second.has in
    same-level a b (first.of_option ∙ sym second.of_option) (omega (arith, low, high, here, there))

-- there is one greatest number of a kind
not-greater : (P : ℕ → Type 0) (one other : ℕ) → IsGreatest P one → IsGreatest P other → one ≤ other
not-greater P one other first second = elim first.reached [
  | inl zero ↦ omega (arith, zero)
  | inr is ↦ second.most one is
]

pub one-greatest : (P : ℕ → Type 0) (one other : ℕ) → IsGreatest P one → IsGreatest P other → one ≡ other
one-greatest P one other first second = omega (arith, not-greater P one other first second, not-greater P other one second first)

-- a plan has one settling bound after a millisecond
pub one-bound : (plan : Topology) (last one other : ℕ) → IsSettlingBound plan last one → IsSettlingBound plan last other → one ≡ other
one-bound plan last one other first second =
    let delay = one-greatest (IsDelay plan) first.delay second.delay first.greatest_delay second.greatest_delay in
    let rank = one-greatest (IsRank plan) first.rank second.rank first.greatest_rank second.greatest_rank in
    let longest = subst (λ d. IsGreatest (IsWait plan d) first.wait) delay first.greatest_wait in
    let wait = one-greatest (IsWait plan second.delay) first.wait second.wait longest second.greatest_wait in
    first.is
    ∙ ap (λ w. settled_from last w first.rank first.delay) wait
    ∙ ap (λ r. settled_from last second.wait r first.delay) rank
    ∙ ap (settled_from last second.wait second.rank) delay
    ∙ sym second.is

-- and where it has none, it has none
pub one-or-none : (plan : Topology) (last : ℕ) (one other : Option ℕ) → IsBoundAfter plan last one → IsBoundAfter plan last other → one ≡ other
one-or-none plan last None None first second = refl
one-or-none plan last (Some one) (Some other) first second = ap Some (one-bound plan last one other first second)
one-or-none plan last None (Some other) first second = absurd (first other second)
one-or-none plan last (Some one) None first second = absurd (second one first)

-- closed walks are so many
one-many : (plan : Topology) (taken : Taken) (one other : ℕ) → AreSoManyLoops plan taken one → AreSoManyLoops plan taken other → one ≡ other
one-many plan taken one other first second =
    first.many ∙ ap length (one-loops plan taken first.walks second.walks first.are_walks second.are_walks) ∙ sym second.many

-- an outcome of its parts, and outcomes with the same parts
abbrev made : Bool → ℕ → ℕ → ℕ → ℕ → Level → Option ℕ → Outcome
made settled locked holdover free loops worst bound = record {
  settled = settled;
  locked = locked;
  holdover = holdover;
  free = free;
  loops = loops;
  worst = worst;
  bound = bound;
}

same-outcome : (one other : Outcome) → one.settled ≡ other.settled → one.locked ≡ other.locked → one.holdover ≡ other.holdover → one.free ≡ other.free
    → one.loops ≡ other.loops → one.worst ≡ other.worst → one.bound ≡ other.bound → one ≡ other
same-outcome one other same_settled same_locked same_holdover same_free same_loops same_worst same_bound =
    ap (λ x. made x one.locked one.holdover one.free one.loops one.worst one.bound) same_settled
    ∙ ap (λ x. made other.settled x one.holdover one.free one.loops one.worst one.bound) same_locked
    ∙ ap (λ x. made other.settled other.locked x one.free one.loops one.worst one.bound) same_holdover
    ∙ ap (λ x. made other.settled other.locked other.holdover x one.loops one.worst one.bound) same_free
    ∙ ap (λ x. made other.settled other.locked other.holdover other.free x one.worst one.bound) same_loops
    ∙ ap (λ x. made other.settled other.locked other.holdover other.free other.loops x one.bound) same_worst
    ∙ ap (λ x. made other.settled other.locked other.holdover other.free other.loops other.worst x) same_bound

-- what is shown and the bound are all of it
pub one-shown : (plan : Topology) (events : List Event) (t : ℕ) (one other : Outcome) → IsShown plan events t one → IsShown plan events t other
    → one.bound ≡ other.bound → one ≡ other
one-shown plan events t one other first second bound =
    same-outcome one other
    (one-truth _ one.settled other.settled first.settled second.settled)
    (first.locked ∙ sym second.locked) (first.holdover ∙ sym second.holdover) (first.free ∙ sym second.free)
    (one-many plan (taken_by plan events t) one.loops other.loops first.loops second.loops)
    (one-worst plan events t (length plan.elements) one.worst other.worst first.worst second.worst)
    bound

pub one-outcome : (plan : Topology) (events : List Event) (until : ℕ) (one other : Outcome) → IsOutcome plan events until one → IsOutcome plan events until other
    → one ≡ other
one-outcome plan events until one other first second =
    let last : first.last ≡ second.last = one-greatest (IsTimeUntil events until) first.last second.last first.is_last second.is_last in
    one-shown plan events until one other first.shown second.shown
    (one-or-none plan second.last one.bound other.bound (subst (λ t. IsBoundAfter plan t one.bound) last first.bound) second.bound)
