-- What a run costs: counts over milliseconds, one step after another.
use Rattle.std.proofs.Common.{◌≡◌, ◌≢◌, ◌≤◌, ◌<◌, ◌+◌, ◌-◌, ◌⊎◌, inl, inr, ℕ, zero, suc, Bool, true, false, ◌||◌, cond, List, [], ◌∷◌, ◌++◌, length, filter, refl, ap, sym, subst, ◌∙◌, arith}
use Rattle.std.specs.Prelude.{nat_eq, slice_index_or, if◌then◌else◌, count_by, sum_by, Option, Some}
use Rattle.std.specs.List.{All, list_any, range_with_len, IsDistinct}
use Rattle.std.proofs.lemmas.Bool.{true≢false, eqb-true, eq-eqb}
use Rattle.std.proofs.lemmas.Bool.Decides.{eqb_tells}
use Rattle.std.proofs.lemmas.Cmp.{nat_eq_equiv}
use Rattle.std.proofs.lemmas.List.FromFn.{length-range_with_len, get_or-range_with_len}
use Rattle.std.proofs.lemmas.List.Folds.{list_any_at}
use Rattle.std.proofs.lemmas.List.Sums.{sum_by-append, length-filter}
use Rattle.std.proofs.lemmas.Map.Made.{length-le_from_is_member}
use Rattle.std.proofs.lemmas.Map.Views.{any-filter_same}
use Rattle.sync_text.proofs.Each.{each-all}
use Rattle.sync_text.specs.Each.{Each}
use Rattle.sync_element.specs.ElementState.{ElementState}
use Rattle.sync_topo.specs.declared.event.Event.{Event}
use Rattle.sync_topo.specs.Topology.{Topology}
use Rattle.net_rules.specs.Signals.{events_at}
use Rattle.net_rules.specs.Activity.{is_active, is_busy}
use Rattle.sync_net.specs.NetState.{NetState}
use Rattle.sync_net.specs.Evaluated.{AreAloneEvaluated}
use Rattle.event_sim.specs.Bounds.{milliseconds, turns_in, active_times, active_pairs}
use Rattle.event_times.specs.EventTimes.{IsNextTime}
use Rattle.event_sim.specs.private.Running.{IsTurnBound, IsBound}

-- a range in two parts
range-append : (from a b : ℕ) → range_with_len from (a + b) ≡ range_with_len from a ++ range_with_len (from + a) b
range-append from zero b =
    let none : 0 + b ≡ b = omega arith in
    let here : from ≡ from + 0 = omega arith in
    ap (range_with_len from) none ∙ ap (λ (start : ℕ). range_with_len start b) here
range-append from (suc a) b =
    let more : suc a + b ≡ suc (a + b) = omega arith in
    let there : from + 1 + a ≡ from + suc a = omega arith in
    ap (range_with_len from) more
    ∙ ap (λ (rest : List ℕ). from ∷ rest) (range-append (from + 1) a b ∙ ap (λ (start : ℕ). range_with_len (from + 1) a ++ range_with_len start b) there)

milliseconds-parts : (from middle end : ℕ) → from ≤ middle → middle ≤ end → milliseconds from end ≡ milliseconds from middle ++ milliseconds middle end
milliseconds-parts from middle end low high =
    let both : end - from ≡ (middle - from) + (end - middle) = omega (arith, low, high) in
    let there : from + (middle - from) ≡ middle = omega (arith, low) in
    ap (range_with_len from) both ∙ range-append from (middle - from) (end - middle)
    ∙ ap (λ (start : ℕ). range_with_len from (middle - from) ++ range_with_len start (end - middle)) there

one-millisecond : (now : ℕ) → milliseconds now (suc now) ≡ now ∷ []
one-millisecond now = let one : suc now - now ≡ 1 = omega arith in ap (range_with_len now) one

-- what is counted up to a millisecond, and in it, is counted
pub counted : (f : ℕ → ℕ) (from next now : ℕ) → from ≤ next → next ≤ now → sum_by f (milliseconds from next) + f now ≤ sum_by f (milliseconds from (suc now))
counted f from next now low high =
    let parts : sum_by f (milliseconds from (suc now)) ≡ sum_by f (milliseconds from now) + sum_by f (milliseconds now (suc now)) =
    ap (sum_by f) (milliseconds-parts from now (suc now) (omega (arith, low, high)) (omega arith)) ∙ sum_by-append f (milliseconds from now) (milliseconds now (suc now)) in
    let last : sum_by f (milliseconds now (suc now)) ≡ 0 + f now = ap (sum_by f) (one-millisecond now) in
    let front : sum_by f (milliseconds from now) ≡ sum_by f (milliseconds from next) + sum_by f (milliseconds next now) =
    ap (sum_by f) (milliseconds-parts from next now low high) ∙ sum_by-append f (milliseconds from next) (milliseconds next now) in
    omega (arith, parts, last, front)

-- what holds of each listed number holds of one that is found
pub listed-has : (P : ℕ → Type 0) (k : ℕ) (xs : List ℕ) → Each P xs → list_any (nat_eq k) xs ≡ true → P k
listed-has P k [] each has = absurd (true≢false (sym has))
listed-has P k (x ∷ xs) each has = elim (eqb_tells k x) [
  | inl same ↦ let equal : x ≡ k = sym same.1 in subst P equal each.0
  | inr other ↦ listed-has P k xs each.1 (sym (ap (λ (b : Bool). b || list_any (nat_eq k) xs) other.0) ∙ has)
]

-- numbers that pass a test, none of them twice, are no more than pass it in their range
pub few-pass : (p : ℕ → Bool) (n : ℕ) (xs : List ℕ) → IsDistinct nat_eq xs → All (λ x. x < n) xs → All (λ x. p x ≡ true) xs
    → length xs ≤ count_by p (range_with_len 0 n)
few-pass p n xs apart within passes =
    let fewer : length xs ≤ length (filter p (range_with_len 0 n)) =
    length-le_from_is_member nat_eq_equiv xs (filter p (range_with_len 0 n)) apart (λ q has.
    let inside : q < n = listed-has (λ x. x < n) q xs (each-all (λ x. x < n) xs within) has in
    let pass : p q ≡ true = listed-has (λ x. p x ≡ true) q xs (each-all (λ x. p x ≡ true) xs passes) has in
    any-filter_same (nat_eq q) p true (λ k same. ap p (sym (eqb-true q k same)) ∙ pass) (range_with_len 0 n)
    ∙ list_any_at (nat_eq q) (range_with_len 0 n) q 0 (omega (arith, inside, length-range_with_len 0 n))
    (ap (nat_eq q) (get_or-range_with_len 0 n q 0 inside) ∙ eq-eqb q (0 + q) (omega arith))) in
    omega (arith, fewer, length-filter p (range_with_len 0 n))

-- what passes is counted once
abbrev counted-as : Bool → ℕ
counted-as passes = cond passes 1 0

counted-once : (passes : Bool) → passes ≡ true → counted-as passes ≡ counted-as true
counted-once passes is = ap counted-as is

-- what a step costs, by what it says of itself
pub turn-bound : (events : List Event) (t : ℕ) (before after : NetState) (ticks ticks_then : ℕ)
    → AreAloneEvaluated before after → ticks_then ≡ ticks + length after.evaluated
    → All (λ element. is_active before.plan events element t ≡ true) after.evaluated
    → IsTurnBound events t before after ticks ticks_then
turn-bound events t before after ticks ticks_then alone ticked active = record {
  work =
      let few = few-pass (λ element. is_active before.plan events element t) (length before.plan.elements) after.evaluated alone.apart alone.within active in
      omega (arith, few, ticked);
  counts = λ element other within. by element other within (list_any (nat_eq element) after.evaluated) refl;
}
  where
    stepped : (first : Bool) (steps steps_then : ℕ) → steps_then ≡ (if first then 0 else steps + 1) → steps_then ≤ steps + 1
    stepped true steps steps_then is = omega (arith, is)
    stepped false steps steps_then is = omega (arith, is)

    by : (element : ℕ) (other : ElementState) → element < length before.plan.elements → (listed : Bool) → list_any (nat_eq element) after.evaluated ≡ listed
        → (slice_index_or after.elements element other).later_steps
        ≤ (slice_index_or before.elements element other).later_steps + cond (is_active before.plan events element t) 1 0
    by element other within true is =
        let is_so : is_active before.plan events element t ≡ true =
        listed-has (λ e. is_active before.plan events e t ≡ true) element after.evaluated
        (each-all (λ e. is_active before.plan events e t ≡ true) after.evaluated active) is in
        let one = counted-once (is_active before.plan events element t) is_so in
        let more = stepped (nat_eq (slice_index_or before.elements element other).next 0) (slice_index_or before.elements element other).later_steps
        (slice_index_or after.elements element other).later_steps (alone.counts element other within is) in
        omega (arith, one, more)
    by element other within false is =
        let same : (slice_index_or after.elements element other).later_steps ≡ (slice_index_or before.elements element other).later_steps =
        ap (λ (e : ElementState). e.later_steps) (alone.left element other within is) in
        omega (arith, same)

-- a millisecond at which an event stands is busy
any-kept : (p : Event → Bool) (events : List Event) → list_any p (filter p events) ≡ list_any p events
any-kept p [] = refl
any-kept p (event ∷ events) = by (p event) refl (any-kept p events)
  where
    by : (b : Bool) → p event ≡ b → list_any p (filter p events) ≡ list_any p events
        → list_any p (cond b (event ∷ filter p events) (filter p events)) ≡ (b || list_any p events)
    by true is rest = ap (λ (first : Bool). first || list_any p (filter p events)) is
    by false is rest = rest

pub event-busy : (plan : Topology) (all rest : List Event) (t : ℕ) → events_at t all ≡ events_at t rest
    → list_any (λ (event : Event). nat_eq event.at t) rest ≡ true → is_busy plan all t ≡ true
event-busy plan all rest t same some =
    let has : list_any (λ (event : Event). nat_eq event.at t) all ≡ true =
    sym (any-kept (λ (event : Event). nat_eq event.at t) all)
    ∙ ap (list_any (λ (event : Event). nat_eq event.at t)) same
    ∙ any-kept (λ (event : Event). nat_eq event.at t) rest ∙ some in
    rw has refl

-- a step is at a busy millisecond or at the end
pub turn-counts : (plan : Topology) (all rest : List Event) (next until now : ℕ) (due : Option ℕ) → IsNextTime next rest due until now
    → events_at now all ≡ events_at now rest
    → (due ≡ Some now → next ≢ 0 → is_busy plan all now ≡ true)
    → (steps steps_then : ℕ) → steps_then ≡ (if nat_eq next 0 then 0 else steps + 1)
    → steps_then ≤ steps + cond (is_busy plan all now || nat_eq now until) 1 0
turn-counts plan all rest next until now due is same busy steps steps_then stepped = by (eqb_tells next 0)
  where
    or-true : (b : Bool) → (b || true) ≡ true
    or-true true = refl
    or-true false = refl

    counts : next ≢ 0 → (next ≡ 0) ⊎ ((now ≡ until) ⊎ ((list_any (λ (event : Event). nat_eq event.at now) rest ≡ true) ⊎ (due ≡ Some now)))
        → (is_busy plan all now || nat_eq now until) ≡ true
    counts begun (inl first) = absurd (begun first)
    counts begun (inr (inl end)) = ap (λ (b : Bool). is_busy plan all now || b) (eq-eqb now until end) ∙ or-true (is_busy plan all now)
    counts begun (inr (inr (inl event))) = ap (λ (b : Bool). b || nat_eq now until) (event-busy plan all rest now same event)
    counts begun (inr (inr (inr is_due))) = ap (λ (b : Bool). b || nat_eq now until) (busy is_due begun)

    by : ((nat_eq next 0 ≡ true) × (next ≡ 0)) ⊎ ((nat_eq next 0 ≡ false) × (next ≢ 0))
        → steps_then ≤ steps + cond (is_busy plan all now || nat_eq now until) 1 0
    by (inl first) = let none : steps_then ≡ 0 = stepped ∙ ap (λ (b : Bool). if b then 0 else steps + 1) first.0 in omega (arith, none)
    by (inr later) =
        let more : steps_then ≡ steps + 1 = stepped ∙ ap (λ (b : Bool). if b then 0 else steps + 1) later.0 in
        let one = counted-once (is_busy plan all now || nat_eq now until) (counts later.1 is.cause) in
        omega (arith, more, one)

-- one step more costs what is counted in its millisecond
pub bound-more : (all : List Event) (until now : ℕ) (first net net_then : NetState) (ticks_first ticks ticks_then : ℕ)
    → first.next ≤ net.next → net.next ≤ now → net_then.next ≡ suc now → net.plan ≡ first.plan
    → IsBound all until first net ticks_first ticks
    → net_then.later_steps ≤ net.later_steps + cond (is_busy net.plan all now || nat_eq now until) 1 0
    → IsTurnBound all now net net_then ticks ticks_then
    → IsBound all until first net_then ticks_first ticks_then
unfolding turns_in active_times active_pairs
bound-more all until now first net net_then ticks_first ticks ticks_then from later next_then same bound turn cost = record {
  turns =
      let span = counted (λ t. cond (is_busy first.plan all t || nat_eq t until) 1 0) first.next net.next now from later in
      let here : sum_by (λ t. cond (is_busy first.plan all t || nat_eq t until) 1 0) (milliseconds first.next net_then.next)
      ≡ sum_by (λ t. cond (is_busy first.plan all t || nat_eq t until) 1 0) (milliseconds first.next (suc now)) =
      ap (λ (end : ℕ). sum_by (λ t. cond (is_busy first.plan all t || nat_eq t until) 1 0) (milliseconds first.next end)) next_then in
      let more : net_then.later_steps ≤ net.later_steps + cond (is_busy first.plan all now || nat_eq now until) 1 0 =
      subst (λ (plan : Topology). net_then.later_steps ≤ net.later_steps + cond (is_busy plan all now || nat_eq now until) 1 0) same turn in
      omega (arith, bound.turns, more, span, here);
  work =
      let active : ℕ → ℕ = λ t. count_by (λ element. is_active first.plan all element t) (range_with_len 0 (length first.plan.elements)) in
      let span = counted active first.next net.next now from later in
      let here : sum_by active (milliseconds first.next net_then.next) ≡ sum_by active (milliseconds first.next (suc now)) =
      ap (λ (end : ℕ). sum_by active (milliseconds first.next end)) next_then in
      let more : ticks_then ≤ ticks + active now =
      subst (λ (plan : Topology). ticks_then ≤ ticks + count_by (λ element. is_active plan all element now) (range_with_len 0 (length plan.elements))) same cost.work in
      omega (arith, bound.work, more, span, here);
  counts = λ element other within.
      let span = counted (λ t. cond (is_active first.plan all element t) 1 0) first.next net.next now from later in
      let here : sum_by (λ t. cond (is_active first.plan all element t) 1 0) (milliseconds first.next net_then.next)
      ≡ sum_by (λ t. cond (is_active first.plan all element t) 1 0) (milliseconds first.next (suc now)) =
      ap (λ (end : ℕ). sum_by (λ t. cond (is_active first.plan all element t) 1 0) (milliseconds first.next end)) next_then in
      let more : (slice_index_or net_then.elements element other).later_steps
      ≤ (slice_index_or net.elements element other).later_steps + cond (is_active first.plan all element now) 1 0 =
      subst (λ (plan : Topology). element < length plan.elements → (slice_index_or net_then.elements element other).later_steps
      ≤ (slice_index_or net.elements element other).later_steps + cond (is_active plan all element now) 1 0) same (cost.counts element other) within in
      omega (arith, bound.counts element other within, more, span, here);
}
