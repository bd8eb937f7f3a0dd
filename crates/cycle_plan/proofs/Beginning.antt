-- How things stand before any line has a rank.
use Rattle.std.proofs.Common.{◌≡◌, ℕ, ◌<◌, false, Option, [], length, Some, None, sym, ap, subst, ◌∙◌, arith}
use Rattle.std.specs.Prelude.{slice_get, replicate}
use Rattle.std.specs.List.{All}
use Rattle.std.proofs.lemmas.Bool.{true≢false}
use Rattle.std.proofs.lemmas.List.{length-replicate, get_or-replicate}
use Rattle.std.proofs.lemmas.Option.{none-some, same_Some, slice_get_within, slice_get-get_or}
use Rattle.sync_topo.specs.declared.returns.ReturnRule.{ReturnRule}
use Rattle.sync_topo.specs.Topology.{Topology}
use Rattle.sync_topo.specs.Lines.{line_count}
use Rattle.rank_cert.specs.Ranks.{Ranks, rank_at}
use Rattle.cycle_plan.specs.private.Peeling.{IsRanking, IsWatched, IsPeeling}
use Rattle.cycle_plan.specs.declared.inputs.OpenInputs.{OpenInputs}
use Rattle.cycle_plan.specs.declared.ranking.Ranking.{Ranking}
use Rattle.cycle_plan.proofs.OrderLemmas.{no_rank, nothing_ordered}

-- the watch of an element that nobody has looked at
abbrev pub unwatched : OpenInputs
unwatched = record { first = 0; second = 0; back = false; done = false }

new_watch : (returns : ReturnRule) (plan : Topology) (ranks : Ranks) (element : ℕ) → IsWatched returns plan ranks element unwatched
new_watch returns plan ranks element = record {
  watched = record {
    first_within = omega arith;
    second_within = omega arith;
    before = λ place early. absurd (omega (arith, early));
    between = λ place other line next from early. absurd (omega (arith, early));
  };
  back = λ never. absurd (true≢false (sym never));
  done = λ never. absurd (true≢false (sym never));
}

no_ranks : (returns : ReturnRule) (plan : Topology) (ranks : Ranks) → ranks ≡ replicate (line_count plan) None → IsRanking returns plan ranks
no_ranks returns plan ranks unranked = record {
  counted = ap length unranked ∙ length-replicate {A = Option ℕ} (line_count plan) None;
  exact = λ line rank ranked. absurd (never line rank ranked);
  only = λ line rank ranked. absurd (never line rank ranked);
  below = λ line rank ranked. absurd (never line rank ranked);
}
  where
    never : (line rank : ℕ) → rank_at ranks line ≡ Some rank → ⊥
    never line rank ranked = none-some rank (sym (ap (λ r. rank_at r line) unranked ∙ no_rank (line_count plan) line) ∙ ranked)

pub peeling_new : (returns : ReturnRule) (plan : Topology) (ranking : Ranking) → ranking.ranks ≡ replicate (line_count plan) None
    → ranking.watches.items ≡ replicate (length plan.elements) unwatched → All (λ element. element < length plan.elements) ranking.waiting.items
    → ranking.order.items ≡ [] → IsPeeling returns plan ranking
peeling_new returns plan ranking unranked watches waiting order = record {
  ranked = no_ranks returns plan ranking.ranks unranked;
  watches = ap length watches ∙ length-replicate (length plan.elements) unwatched;
  watched = λ element watch there.
      let stood : slice_get (replicate (length plan.elements) unwatched) element ≡ Some watch = subst (λ w. slice_get w element ≡ Some watch) watches there in
      let inside : element < length plan.elements =
      omega (arith, slice_get_within (replicate (length plan.elements) unwatched) element watch stood, length-replicate (length plan.elements) unwatched) in
      let is : unwatched ≡ watch =
      same_Some unwatched watch
      (sym (slice_get-get_or (replicate (length plan.elements) unwatched) element unwatched (rw (length-replicate (length plan.elements) unwatched) inside)
      ∙ ap (λ w. Some w) (get_or-replicate (length plan.elements) element unwatched unwatched inside)) ∙ stood) in
      subst (λ w. IsWatched returns plan ranking.ranks element w) is (new_watch returns plan ranking.ranks element);
  waiting = waiting;
  ordered = nothing_ordered returns plan ranking.ranks ranking.order.items unranked order;
}
