-- The rows of a network that stands for its plan and all events: none where one state of it stands
-- before and after a millisecond, and else what two states show.
use Rattle.std.proofs.Common.{◌≡◌, ◌≤◌, ◌<◌, ℕ, zero, suc, Bool, true, false, List, [], ◌∷◌, ◌++◌, length, map, filter, refl, ap, sym, subst, ◌∙◌, arith}
use Rattle.std.specs.Prelude.{slice_index_or, nat_eq}
use Rattle.std.specs.List.{range_with_len, list_any}
use Rattle.std.proofs.Math.Decide.{dec_lt}
use Rattle.std.proofs.lemmas.List.{append-nil}
use Rattle.sync_text.proofs.Each.{Each-map, Each-range, Each-filter}
use Rattle.sync_text.specs.Each.{Each}
use Rattle.sync_ql.proofs.SameMoments.{same_option}
use Rattle.sync_element.specs.ElementState.{ElementState}
use Rattle.sync_topo.specs.declared.event.Event.{Event}
use Rattle.sync_topo.specs.Topology.{Topology}
use Rattle.sync_topo.proofs.Lists.{filter_range_agree}
use Rattle.net_rules.specs.Signals.{signals_by}
use Rattle.net_rules.specs.History.{element_past, out_at}
use Rattle.net_rules.proofs.Lists.{map-same}
use Rattle.sync_net.specs.NetState.{NetState}
use Rattle.sync_net.specs.Standing.{ElementStands, StandsFor}
use Rattle.sync_net.specs.Evaluated.{AreAloneEvaluated}
use Rattle.sync_net.proofs.QuietGap.{some_element}
use Rattle.sync_net.proofs.StageLaws.{same-place}
use Rattle.shown_words.proofs.SameLaws.{same-mode, same-state, same-taken}
use Rattle.sync_topo.specs.Sizes.{most_rows}
use Rattle.event_sim.specs.declared.shown.Shown.{Shown}
use Rattle.event_sim.specs.Rows.{shows_other, shown_after, shown_by, has_changed, changed_in, row_of, rows_in, rows_until}
use Rattle.event_sim.specs.private.Showing.{Shows, kept_in, AreShown, AreRenewed, others_in, rows_between}

pub other-same : (shown : Shown) → shows_other shown shown ≡ false
unfolding shows_other
other-same shown = rw (same-mode shown.mode, same-taken shown.input, same_option shown.level.option, same-place shown.level.place, same-state shown.state) refl

-- the law of sync_net on elements: one of a network stands for what the network stands for
pub record HasElements : Type 0 where
  pub stands : (net : NetState) (events : List Event) (n element : ℕ) (other : ElementState) → StandsFor net events n → element < length net.plan.elements
      → ElementStands net.plan (signals_by net.plan events) (out_at net.plan (signals_by net.plan events)) element n (slice_index_or net.elements element other)

-- what is kept is what an element shows after the milliseconds for which the network stands
pub shown-is : HasElements → (net : NetState) (shown : List Shown) (events : List Event) (n place : ℕ) → AreShown net shown → StandsFor net events n
    → place < length net.plan.elements → shown_by net.plan events place n ≡ kept_in net.plan shown place
shown-is law net shown events n place are is within =
    let element : ElementState = slice_index_or net.elements place (some_element net.plan) in
    let stands : ElementStands net.plan (signals_by net.plan events) (out_at net.plan (signals_by net.plan events)) place n element =
    law.stands net events n place (some_element net.plan) is within in
    ap (shown_after net.plan place) stands.quiet
    ∙ sym ((are.each place (some_element net.plan) within).shows stands.settings
    (element_past net.plan (signals_by net.plan events) (out_at net.plan (signals_by net.plan events)) place element.next) n stands.stands stands.in_time)

-- a test that nothing passes
none-passes : (numbers : List ℕ) → filter (λ (n : ℕ). false) numbers ≡ []
none-passes [] = refl
none-passes (n ∷ numbers) = none-passes numbers

-- while one state stands, a millisecond has no rows
quiet-millisecond : HasElements → (net : NetState) (shown : List Shown) (events : List Event) (t : ℕ) → AreShown net shown
    → StandsFor net events t → StandsFor net events (suc t) → rows_in net.plan events t ≡ []
quiet-millisecond law net shown events t are before after =
    let none : changed_in net.plan events t ≡ [] =
    filter_range_agree (has_changed net.plan events t) (λ (n : ℕ). false) (length net.plan.elements)
    (λ place within. ap (λ was. shows_other was (shown_by net.plan events place (suc t))) (shown-is law net shown events t place are before within)
    ∙ ap (shows_other (kept_in net.plan shown place)) (shown-is law net shown events (suc t) place are after within)
    ∙ other-same (kept_in net.plan shown place))
    ∙ none-passes (range_with_len 0 (length net.plan.elements)) in
    ap (map (λ place. row_of t place (shown_by net.plan events place (suc t)))) none

-- nor have several
pub quiet-rows : HasElements → (net : NetState) (shown : List Shown) (events : List Event) (m n : ℕ) → AreShown net shown → m ≤ n
    → ((k : ℕ) → m ≤ k → k ≤ n → StandsFor net events k) → rows_until net.plan events n ≡ rows_until net.plan events m
quiet-rows law net shown events m zero are early stands =
    let same : m ≡ 0 = omega (arith, early) in ap (rows_until net.plan events) (sym same)
quiet-rows law net shown events m (suc n) are early stands = elim (dec_lt n m) [
  | yes here ↦ let same : m ≡ suc n = omega (arith, early, here) in ap (rows_until net.plan events) (sym same)
  | no later ↦
      let inside : m ≤ n = omega (arith, later) in
      ap (λ rows. rows_until net.plan events n ++ rows)
      (quiet-millisecond law net shown events n are (stands n inside (omega arith)) (stands (suc n) early (omega arith)))
      ∙ append-nil (rows_until net.plan events n)
      ∙ quiet-rows law net shown events m n are inside (λ k low high. stands k low (omega (arith, high)))
]

-- the rows of a millisecond are by what is kept before it and after it
pub turn-rows : HasElements → (net net_then : NetState) (was now : List Shown) (events : List Event) (t : ℕ) → AreShown net was → AreShown net_then now
    → net_then.plan ≡ net.plan → StandsFor net events t → StandsFor net_then events (suc t)
    → rows_in net.plan events t ≡ rows_between net.plan t was now
turn-rows law net net_then was now events t before after same is is_then =
    let now-is : (place : ℕ) → place < length net.plan.elements → shown_by net.plan events place (suc t) ≡ kept_in net.plan now place =
    subst (λ (plan : Topology). (place : ℕ) → place < length plan.elements → shown_by plan events place (suc t) ≡ kept_in plan now place) same
    (λ place within. shown-is law net_then now events (suc t) place after is_then within) in
    let alike : changed_in net.plan events t ≡ others_in net.plan was now =
    filter_range_agree (has_changed net.plan events t) (λ place. shows_other (kept_in net.plan was place) (kept_in net.plan now place)) (length net.plan.elements)
    (λ place within. ap (λ shown. shows_other shown (shown_by net.plan events place (suc t))) (shown-is law net was events t place before is within)
    ∙ ap (shows_other (kept_in net.plan was place)) (now-is place within)) in
    let inside : Each (λ place. place < length net.plan.elements) (others_in net.plan was now) =
    Each-map _ _ (λ place both. both.0) _
    (Each-filter (λ place. place < length net.plan.elements) (λ place. shows_other (kept_in net.plan was place) (kept_in net.plan now place))
    (range_with_len 0 (length net.plan.elements))
    (Each-range (λ place. place < length net.plan.elements) 0 (length net.plan.elements) (λ k low high. omega (arith, high)))) in
    ap (map (λ place. row_of t place (shown_by net.plan events place (suc t)))) alike
    ∙ map-same (λ place. row_of t place (shown_by net.plan events place (suc t))) (λ place. row_of t place (kept_in net.plan now place)) (others_in net.plan was now)
    (Each-map _ _ (λ place within. ap (row_of t place) (now-is place within)) _ inside)

-- the elements that a step left show what they showed
pub shown-then : (net net_then : NetState) (was now : List Shown) → net_then.plan ≡ net.plan → AreAloneEvaluated net net_then
    → AreShown net was → AreRenewed net_then net_then.evaluated was now → AreShown net_then now
shown-then net net_then was now same alone are renewed = record {
  few = subst (λ (plan : Topology). length plan.elements ≤ most_rows plan) (sym same) are.few;
  count = renewed.count ∙ are.count ∙ ap (λ (plan : Topology). length plan.elements) (sym same);
  each = λ place other within. by place other within (list_any (nat_eq place) net_then.evaluated) refl;
}
  where
    by : (place : ℕ) (other : ElementState) → place < length net_then.plan.elements → (listed : Bool) → list_any (nat_eq place) net_then.evaluated ≡ listed
        → Shows net_then.plan place (slice_index_or net_then.elements place other) (kept_in net_then.plan now place)
    by place other within true is = renewed.seen place other within is
    by place other within false is =
        let inside : place < length net.plan.elements = subst (λ (plan : Topology). place < length plan.elements) same within in
        let old : Shows net_then.plan place (slice_index_or net.elements place other) (kept_in net_then.plan was place) =
        subst (λ (plan : Topology). Shows plan place (slice_index_or net.elements place other) (kept_in plan was place)) (sym same) (are.each place other inside) in
        let still : Shows net_then.plan place (slice_index_or net_then.elements place other) (kept_in net_then.plan was place) =
        subst (λ element. Shows net_then.plan place element (kept_in net_then.plan was place)) (sym (alone.left place other inside is)) old in
        subst (Shows net_then.plan place (slice_index_or net_then.elements place other)) (sym (renewed.left place is)) still
