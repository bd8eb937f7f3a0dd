-- All three counts of the chains into each element, with one line more.
use Rattle.std.proofs.Common.{◌≡◌, ℕ, ◌*◌, ◌+◌, ◌<◌, ◌≤◌, Bool, List, length, get_or, Option, Some, None, refl, sym, ap, subst, ◌∙◌, inl, inr, arith}
use Rattle.std.specs.Prelude.{◌≢◌, slice_get, slice_set, slice_index_or, replicate, map, if◌then◌else◌}
use Rattle.std.specs.Option.{option_map}
use Rattle.std.proofs.lemmas.Bool.{cases_eq}
use Rattle.std.proofs.lemmas.List.{length-replicate, get_or-replicate, length-set, length-map}
use Rattle.std.proofs.lemmas.Option.{none-some, same_Some, slice_get_within, slice_get-get_or, slice_get_read, slice_get-map}
use Rattle.sync_topo.specs.declared.input.LineId.{LineId}
use Rattle.sync_topo.specs.declared.returns.ReturnRule.TheVariants.{Barred}
use Rattle.sync_topo.specs.Topology.{Topology}
use Rattle.sync_topo.specs.Limits.{link_limit}
use Rattle.sync_topo.specs.Lines.{line_count, IsNominated, sender_of, receiver_of}
use Rattle.sync_topo.specs.Bundles.{line_bundle}
use Rattle.sync_topo.specs.Hops.{Hops}
use Rattle.sync_topo.specs.WellFormed.{IsWellFormed}
use Rattle.sync_topo.proofs.LineLaws.{IsNominated-within}
use Rattle.sync_topo.proofs.Lists.{slice_get-set_same, slice_get-set_other}
use Rattle.rank_cert.specs.Ranks.{Ranks, rank_at}
use Rattle.reach_rules.specs.declared.chain.Chain.{Chain}
use Rattle.reach_rules.specs.Chains.{is_filter, begins_at_filter, since_of, clocks_of, IsRow, AreRows}
use Rattle.cycle_plan.specs.private.Peeling.{line_in, IsAmongFirst, IsOrder}
use Rattle.cycle_plan.specs.Mosts.{row_of}
use Rattle.cycle_plan.specs.private.Mosts.{no_reach, IsMost, IsReach, AreReaches, links_step, since_step, clocks_step, over, raised_reach}
use Rattle.cycle_plan.specs.declared.greatest.Greatest.{Greatest}
use Rattle.cycle_plan.specs.private.Greatest.{greatest_but, raised_greatest, IsBelow}
use Rattle.cycle_plan.specs.declared.reach.Reach.{Reach}
use Rattle.cycle_plan.proofs.Walks.{some_rank}
use Rattle.cycle_plan.proofs.GreatestLaws.{below-but}
use Rattle.cycle_plan.proofs.MostLemmas.{IsCount, links_count, since_count, clocks_count, line_most, IsMost-none, IsMost-other, IsMost-raised, IsMost-all}

-- before any line is done
pub AreReaches-none : (plan : Topology) (order : List LineId) (reaches : List Reach) → reaches ≡ replicate (length plan.elements) no_reach → AreReaches plan order 0 reaches
AreReaches-none plan order reaches is = record {
  counted = ap length is ∙ length-replicate (length plan.elements) no_reach;
  each = λ element reach there.
      let stood : slice_get (replicate (length plan.elements) no_reach) element ≡ Some reach = subst (λ r. slice_get r element ≡ Some reach) is there in
      let inside : element < length plan.elements =
      omega (arith, slice_get_within (replicate (length plan.elements) no_reach) element reach stood, length-replicate (length plan.elements) no_reach) in
      let same : no_reach ≡ reach =
      same_Some no_reach reach
      (sym (slice_get-get_or (replicate (length plan.elements) no_reach) element no_reach (rw (length-replicate (length plan.elements) no_reach) inside)
      ∙ ap (λ r. Some r) (get_or-replicate (length plan.elements) element no_reach no_reach inside)) ∙ stood) in
      subst (λ r. IsReach plan order 0 element r) same (record {
        links = IsMost-none plan order element length;
        since = IsMost-none plan order element (since_of plan);
        clocks = IsMost-none plan order element (clocks_of plan);
      });
}

-- the line that is read at a place of the order stands there, and is a line of the plan
pub line_there : (order : List LineId) (place : ℕ) (line : LineId) → place < length order → line ≡ get_or order place line → line_in order place ≡ Some line.0
line_there order place line within read = ap (λ o. option_map (λ (l : LineId). l.0) o) (slice_get_read order (length order) place line refl within read)

pub line_within : (plan : Topology) (ranks : Ranks) (order : List LineId) (place : ℕ) (line : LineId) → IsOrder Barred plan ranks order → place < length order
    → line ≡ get_or order place line → line.0 < line_count plan
line_within plan ranks order place line ordered within read = IsNominated-within plan line.0 (ordered.only place line.0 (line_there order place line within read))

-- what a new count can't exceed
small_but : (most : Greatest) (n bundle : ℕ) → IsBelow most n → n < 2 * link_limit → greatest_but most bundle < 2147483648
small_but most n bundle few low = omega (arith, below-but most bundle n few, low)

-- each has room for one more
pub record HasRoom (reach : Reach) (bundle : ℕ) : Type 0 where
  pub links : greatest_but reach.links bundle < 2147483648
  pub since : greatest_but reach.since bundle < 2147483648
  pub clocks : greatest_but reach.clocks bundle < 2147483648

pub has_room : (plan : Topology) (ranks : Ranks) (order : List LineId) (n element bundle : ℕ) (reaches : List Reach) → IsWellFormed plan → IsOrder Barred plan ranks order
    → n < length order → AreReaches plan order n reaches → element < length plan.elements → HasRoom (slice_index_or reaches element no_reach) bundle
has_room plan ranks order n element bundle reaches well ordered within are inside =
    let few = ordered.few in
    let links = well.few_links in
    let low : n < 2 * link_limit = omega (arith, within, few, links) in
    let is = are.each element (slice_index_or reaches element no_reach) (slice_get-get_or reaches element no_reach (rw are.counted inside)) in
    record {
      links = small_but (slice_index_or reaches element no_reach).links n bundle is.links.few low;
      since = small_but (slice_index_or reaches element no_reach).since n bundle is.since.few low;
      clocks = small_but (slice_index_or reaches element no_reach).clocks n bundle is.clocks.few low;
    }

-- one count, where the line at place n is done too
one_count : (plan : Topology) (ranks : Ranks) (order : List LineId) (n line : ℕ) (count : List ℕ → ℕ) (step : Bool → ℕ → ℕ) (from to : Greatest)
    → IsOrder Barred plan ranks order → line_in order n ≡ Some line → IsCount plan count step
    → IsMost plan order n (sender_of plan line) count from → IsMost plan order n (receiver_of plan line) count to
    → IsMost plan order (n + 1) (receiver_of plan line) count
    (raised_greatest to (line_bundle plan line) (step (begins_at_filter plan line) (greatest_but from (line_bundle plan line))))
one_count plan ranks order n line count step from to ordered here counts from_is to_is =
    let nominated = ordered.only n line here in
    let done : (other : ℕ) → Hops plan other line → IsAmongFirst order n other = λ other hop. ordered.after n line other here hop in
    let few = below-but from (line_bundle plan line) n from_is.few in
    let slow = counts.slow (begins_at_filter plan line) (greatest_but from (line_bundle plan line)) in
    IsMost-raised plan order n line count to (step (begins_at_filter plan line) (greatest_but from (line_bundle plan line))) here nominated
    (line_most plan order n line count step from counts nominated done from_is) (omega (arith, few, slow)) to_is

reach_raised : (plan : Topology) (ranks : Ranks) (order : List LineId) (n line : ℕ) (from to : Reach) → IsOrder Barred plan ranks order → line_in order n ≡ Some line
    → IsReach plan order n (sender_of plan line) from → IsReach plan order n (receiver_of plan line) to
    → IsReach plan order (n + 1) (receiver_of plan line) (raised_reach to (line_bundle plan line) (over from (line_bundle plan line) (begins_at_filter plan line)))
reach_raised plan ranks order n line from to ordered here from_is to_is = record {
  links = one_count plan ranks order n line length links_step from.links to.links ordered here (links_count plan) from_is.links to_is.links;
  since = one_count plan ranks order n line (since_of plan) since_step from.since to.since ordered here (since_count plan) from_is.since to_is.since;
  clocks = one_count plan ranks order n line (clocks_of plan) clocks_step from.clocks to.clocks ordered here (clocks_count plan) from_is.clocks to_is.clocks;
}

reach_other : (plan : Topology) (order : List LineId) (n element line : ℕ) (reach : Reach) → line_in order n ≡ Some line → receiver_of plan line ≢ element
    → IsReach plan order n element reach → IsReach plan order (n + 1) element reach
reach_other plan order n element line reach here elsewhere is = record {
  links = IsMost-other plan order n element line length reach.links here elsewhere is.links;
  since = IsMost-other plan order n element line (since_of plan) reach.since here elsewhere is.since;
  clocks = IsMost-other plan order n element line (clocks_of plan) reach.clocks here elsewhere is.clocks;
}

-- all elements, where the line at place n is done too
pub record IsExtended (plan : Topology) (line : ℕ) (reaches : List Reach) (sender receiver : ℕ) (new : Reach) : Type 0 where
  pub sender_is : sender ≡ sender_of plan line
  pub receiver_is : receiver ≡ receiver_of plan line
  pub sender_within : sender < length plan.elements
  pub receiver_within : receiver < length plan.elements
  pub bundle : ℕ
  pub bundle_is : bundle ≡ line_bundle plan line
  pub chain : Chain
  pub chain_is : chain ≡ over (slice_index_or reaches sender no_reach) bundle (is_filter plan sender)
  pub new_is : new ≡ raised_reach (slice_index_or reaches receiver no_reach) bundle chain

pub AreReaches-next : (plan : Topology) (ranks : Ranks) (order : List LineId) (n line : ℕ) (reaches : List Reach) (sender receiver : ℕ) (new : Reach)
    → IsOrder Barred plan ranks order → line_in order n ≡ Some line → AreReaches plan order n reaches → IsExtended plan line reaches sender receiver new
    → AreReaches plan order (n + 1) (slice_set reaches receiver new)
AreReaches-next plan ranks order n line reaches sender receiver new ordered here are is = record {
  counted = length-set reaches receiver new ∙ are.counted;
  each = λ element reach there. elim (cases_eq element receiver) [
    | inl same ↦
        let reach_is : new ≡ reach =
        same_Some new reach (sym (slice_get-set_same reaches receiver new (rw are.counted is.receiver_within)) ∙ ap (λ e. slice_get (slice_set reaches receiver new) e) (sym same) ∙ there) in
        subst (λ e. IsReach plan order (n + 1) e reach) (sym (same ∙ is.receiver_is)) (subst (λ r. IsReach plan order (n + 1) (receiver_of plan line) r) (sym new_is ∙ reach_is) raised)
    | inr differs ↦
        reach_other plan order n element line reach here (λ same. differs (sym (is.receiver_is ∙ same)))
        (are.each element reach (sym (slice_get-set_other reaches receiver element new (λ same. differs (sym same))) ∙ there))
  ];
}
  where
    from : Reach
    from = slice_index_or reaches sender no_reach

    to : Reach
    to = slice_index_or reaches receiver no_reach

    raised : IsReach plan order (n + 1) (receiver_of plan line) (raised_reach to (line_bundle plan line) (over from (line_bundle plan line) (begins_at_filter plan line)))
    raised =
        reach_raised plan ranks order n line from to ordered here
        (subst (λ e. IsReach plan order n e from) is.sender_is (are.each sender from (slice_get-get_or reaches sender no_reach (rw are.counted is.sender_within))))
        (subst (λ e. IsReach plan order n e to) is.receiver_is (are.each receiver to (slice_get-get_or reaches receiver no_reach (rw are.counted is.receiver_within))))

    new_is : new ≡ raised_reach to (line_bundle plan line) (over from (line_bundle plan line) (begins_at_filter plan line))
    new_is =
        is.new_is ∙ ap (λ c. raised_reach to is.bundle c) is.chain_is
        ∙ ap (λ b. raised_reach to b (over from b (is_filter plan sender))) is.bundle_is
        ∙ ap (λ s. raised_reach to (line_bundle plan line) (over from (line_bundle plan line) (is_filter plan s))) is.sender_is

-- a row comes from what is counted of the element
row_from : (reaches : List Reach) (element : ℕ) (row : Chain) → slice_get (map row_of reaches) element ≡ Some row
    → (reach : Reach) × (slice_get reaches element ≡ Some reach) × (row_of reach ≡ row)
row_from reaches element row there = cases (slice_get reaches element) refl
  where
    cases : (o : Option Reach) → slice_get reaches element ≡ o → (reach : Reach) × (slice_get reaches element ≡ Some reach) × (row_of reach ≡ row)
    cases None none = absurd (none-some row (sym (slice_get-map row_of reaches element ∙ ap (λ o. option_map row_of o) none) ∙ there))
    cases (Some reach) is =
        (reach, is, same_Some (row_of reach) row (sym (slice_get-map row_of reaches element ∙ ap (λ o. option_map row_of o) is) ∙ there))

-- once all nominated lines have ranks these are the rows
pub AreRows-all : (plan : Topology) (ranks : Ranks) (order : List LineId) (reaches : List Reach) → IsOrder Barred plan ranks order
    → ((line : ℕ) → IsNominated plan line → rank_at ranks line ≢ None) → AreReaches plan order (length order) reaches → AreRows plan (map row_of reaches)
AreRows-all plan ranks order reaches ordered ranked are = record {
  counted = length-map reaches row_of ∙ are.counted;
  each = λ element row there. found element row (row_from reaches element row there);
}
  where
    all : (line : ℕ) → IsNominated plan line → IsAmongFirst order (length order) line
    all line nominated = let some = some_rank (rank_at ranks line) (ranked line nominated) in ordered.each line some.0 some.1

    found : (element : ℕ) (row : Chain) → (reach : Reach) × (slice_get reaches element ≡ Some reach) × (row_of reach ≡ row) → IsRow plan element row
    found element row some =
        let is = are.each element some.0 some.1 in
        subst (λ r. IsRow plan element r) some.2 (record {
          links = IsMost-all plan order (length order) element length some.0.links refl all is.links;
          since = IsMost-all plan order (length order) element (since_of plan) some.0.since refl all is.since;
          clocks = IsMost-all plan order (length order) element (clocks_of plan) some.0.clocks refl all is.clocks;
        })
