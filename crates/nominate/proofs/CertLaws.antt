-- The ranks by the order of elements.
use Rattle.std.proofs.Common.{◌≡◌, ℕ, ◌+◌, ◌<◌, ◌≤◌, Bool, true, false, ◌&&◌, ◌==◌, not, List, length, Option, Some, None, refl, sym, ap, subst, ◌∙◌, inl, inr, arith}
use Rattle.std.specs.Prelude.{nat_lt, slice_index}
use Rattle.std.proofs.lemmas.Bool.{cases_lt, false_from_ne_true, and_parts}
use Rattle.sync_topo.specs.Topology.{Topology}
use Rattle.sync_topo.specs.Lines.{line_count, sender_of, receiver_of, is_nominated}
use Rattle.sync_topo.specs.Bundles.{are_bundled}
use Rattle.sync_topo.specs.Hops.{Hops, IsRising}
use Rattle.sync_topo.specs.WellFormed.{IsWellFormed}
use Rattle.sync_topo.proofs.LineLaws.{IsNominated-within}
use Rattle.net_rules.specs.Safety.{IsLoopFree}
use Rattle.net_rules.proofs.PlanLaws.{sender-within}
use Rattle.rank_cert.specs.declared.rising.Verdict.{Verdict}
use Rattle.rank_cert.specs.declared.rising.Verdict.TheVariants.{Rising, Falls}
use Rattle.rank_cert.specs.Ranks.{Ranks, rank_at, rank_of, IsRanked, RanksNoOther, Judges}
use Rattle.nominate.specs.HopCount.{Counts, count_at, AreHopCounts}
use Rattle.nominate.specs.Nomination.{order_place, new_priority, nominated_plan, IsNominatedPlan, order_rank, AreOrderRanks}
use Rattle.nominate.specs.private.Numbering.{ArePriorities}
use Rattle.nominate.specs.private.Placing.{ArePlaces, rank_by}
use Rattle.nominate.proofs.HopLaws.{one-list}
use Rattle.nominate.proofs.OrderLaws.{before-counted}
use Rattle.nominate.proofs.PlanFacts.{lines-same, priority-is}
use Rattle.nominate.proofs.NominatedLaws.{nominated-is, candidate-stands, order-rises, nominated-loop_free}

-- the ranks so far
pub record AreRankedTo (plan : Topology) (priorities places : List ℕ) (n : ℕ) (ranks : Ranks) : Type 0 where
  pub counted : length ranks ≡ line_count plan
  pub each : (line : ℕ) → line < n → rank_at ranks line ≡ rank_by plan priorities places line
  pub none : (line : ℕ) → n ≤ line → rank_at ranks line ≡ None

pub AreRankedTo-more : (plan : Topology) (priorities places : List ℕ) (n : ℕ) (before after : Ranks) (rank : Option ℕ) → AreRankedTo plan priorities places n before
    → length after ≡ length before → rank_at after n ≡ rank → rank ≡ rank_by plan priorities places n
    → ((line : ℕ) → (line ≡ n → ⊥) → rank_at after line ≡ rank_at before line) → AreRankedTo plan priorities places (n + 1) after
AreRankedTo-more plan priorities places n before after rank ranked long here is others = record {
  counted = long ∙ ranked.counted;
  each = λ line low. elim (cases_lt line n) [
    | inl earlier ↦ others line (λ same. omega (arith, same, earlier)) ∙ ranked.each line earlier
    | inr last ↦
        let same : line ≡ n = omega (arith, low, last) in
        ap (rank_at after) same ∙ here ∙ is ∙ ap (rank_by plan priorities places) (sym same)
  ];
  none = λ line past. others line (λ same. omega (arith, same, past)) ∙ ranked.none line (omega (arith, past));
}

module _ (plan : Topology) (counts : Counts) (well : IsWellFormed plan) (are : AreHopCounts plan counts) where
  -- a line's rank by the tables is its rank by the order
  pub rank-is : (priorities places : List ℕ) (line : ℕ) → ArePriorities plan (new_priority plan counts) priorities → ArePlaces plan counts (length plan.elements) places
      → line < line_count plan → rank_by plan priorities places line ≡ order_rank plan counts line
  rank-is priorities places line given placed inside =
      let same : slice_index priorities line ≡ new_priority plan counts line = given.each line inside in
      let nominated : is_nominated (nominated_plan plan counts) line ≡ nat_lt 0 (slice_index priorities line) =
      ap (nat_lt 0) (priority-is plan (new_priority plan counts) line inside ∙ sym same) in
      by (nat_lt 0 (slice_index priorities line)) refl nominated
    where
      by : (b : Bool) → nat_lt 0 (slice_index priorities line) ≡ b → is_nominated (nominated_plan plan counts) line ≡ nat_lt 0 (slice_index priorities line)
          → rank_by plan priorities places line ≡ order_rank plan counts line
      by false is nominated = rw (nominated, is) refl
      by true is nominated =
          let facts = nominated-is plan counts well are line (nominated ∙ is) in
          let counted = before-counted (count_at counts (sender_of plan line)) (count_at counts (receiver_of plan line)) (sender_of plan line) (receiver_of plan line) (candidate-stands plan counts well are line facts.1) in
          let place = placed.each (sender_of plan line) counted.0 (sender-within plan well line inside) counted.2 in
          rw (nominated, is) (ap Some place)

  pub order-ranks : (priorities places : List ℕ) (ranks : Ranks) (n : ℕ) → n ≡ line_count plan → ArePriorities plan (new_priority plan counts) priorities
      → ArePlaces plan counts (length plan.elements) places → AreRankedTo plan priorities places n ranks → AreOrderRanks plan ranks
  order-ranks priorities places ranks n whole given placed ranked = record {
    counts = counts;
    are = are;
    counted = ranked.counted;
    each = λ line. elim (cases_lt line n) [
      | inl inside ↦ ranked.each line inside ∙ rank-is priorities places line given placed (subst (λ (m : ℕ). line < m) whole inside)
      | inr past ↦ ranked.none line past ∙ sym (past-none line (subst (λ (m : ℕ). m ≤ line) whole past))
    ];
  }
    where
      past-none : (line : ℕ) → line_count plan ≤ line → order_rank plan counts line ≡ None
      past-none line past =
          let never : is_nominated (nominated_plan plan counts) line ≡ false =
          false_from_ne_true (is_nominated (nominated_plan plan counts) line)
          (λ is. let inside = IsNominated-within (nominated_plan plan counts) line is in
          let same : line_count (nominated_plan plan counts) ≡ line_count plan = lines-same plan (new_priority plan counts) in
          omega (arith, inside, same, past)) in
          rw never refl

-- ---- what the ranks by the order do

-- a rank is the place of the sender
rank-place : (plan : Topology) (counts : Counts) (ranks : Ranks) (line : ℕ) → rank_at ranks line ≡ order_rank plan counts line → is_nominated (nominated_plan plan counts) line ≡ true
    → rank_at ranks line ≡ Some (order_place plan counts (sender_of plan line))
rank-place plan counts ranks line is nominated = is ∙ rw nominated refl

-- both lines of a hop are nominated
hop-nominated : (plan : Topology) (line next : ℕ) → Hops plan line next → (is_nominated plan line ≡ true) × (is_nominated plan next ≡ true)
hop-nominated plan line next hop =
    let not_back = and_parts (is_nominated plan line && is_nominated plan next && receiver_of plan line == sender_of plan next) (not (are_bundled plan line next)) hop in
    let meet = and_parts (is_nominated plan line && is_nominated plan next) (receiver_of plan line == sender_of plan next) not_back.0 in
    and_parts (is_nominated plan line) (is_nominated plan next) meet.0

module _ (plan nominated : Topology) (ranks : Ranks) (well : IsWellFormed plan) (order : AreOrderRanks plan ranks) (by_hops : IsNominatedPlan plan nominated) where
  same_plan : nominated ≡ nominated_plan plan order.counts
  same_plan = by_hops.is ∙ ap (nominated_plan plan) (one-list plan by_hops.counts order.counts by_hops.are order.are)

  pub order-ranked : IsRanked nominated ranks
  order-ranked = subst (λ (p : Topology). IsRanked p ranks) (sym same_plan) (record {
    counted = order.counted ∙ sym (lines-same plan (new_priority plan order.counts));
    ranked = λ line is. rw (rank-place plan order.counts ranks line (order.each line) is) refl;
  })

  pub order-no_other : RanksNoOther nominated ranks
  order-no_other = subst (λ (p : Topology). RanksNoOther p ranks) (sym same_plan) (λ line never.
      order.each line ∙ rw (false_from_ne_true (is_nominated (nominated_plan plan order.counts) line) never) refl)

  pub order-rising : IsRising nominated (rank_of ranks)
  order-rising = subst (λ (p : Topology). IsRising p (rank_of ranks)) (sym same_plan) rising
    where
      rising : IsRising (nominated_plan plan order.counts) (rank_of ranks)
      rising line next hop =
          let parts = hop-nominated (nominated_plan plan order.counts) line next hop in
          rw (rank-place plan order.counts ranks line (order.each line) parts.0, rank-place plan order.counts ranks next (order.each next) parts.1)
          (order-rises plan order.counts well order.are line next hop)

  pub order-loop_free : IsLoopFree nominated
  order-loop_free = subst IsLoopFree (sym same_plan) (nominated-loop_free plan order.counts well order.are)

  -- a fall would be a hop over which the rank doesn't rise
  pub order-accepted : (verdict : Verdict) → Judges nominated ranks verdict → verdict ≡ Rising
  order-accepted Rising judged = refl
  order-accepted (Falls line next) judged =
      let up = order-rising line.0 next.0 judged.hops_on in
      let down = judged.falls in
      absurd (omega (arith, up, down))
