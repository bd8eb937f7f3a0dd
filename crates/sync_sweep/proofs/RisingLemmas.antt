-- Where a plan has a settling bound ranks rise.
use Rattle.std.proofs.Common.{◌≡◌, ℕ, suc, Bool, true, false, List, [], Option, None, Some, refl, sym, ◌∙◌, arith}
use Rattle.std.specs.Prelude.{is_some, MatchOption}
use Rattle.std.proofs.lemmas.Bool.{true≢false}
use Rattle.sync_topo.specs.Topology.{Topology}
use Rattle.sync_topo.specs.Lines.{is_nominated, IsNominated}
use Rattle.sync_topo.specs.Hops.{hops, IsRising}
use Rattle.sync_topo.specs.Ranks.{IsLeastRank}
use Rattle.net_rules.specs.Walks.{Taken, IsClosedWalk}
use Rattle.net_rules.specs.Settling.{IsSettlingBound}
use Rattle.net_rules.proofs.Backs.{hop-nominated, hop-nominates}
use Rattle.closed_walks.specs.Loops.{IsLoop}
use Rattle.sync_sweep.specs.Outcomes.{AreSoManyLoops}

-- the least ranks as a function, 0 where a line isn't nominated
module _ (plan : Topology) (ranked : (line : ℕ) → IsNominated plan line → (rank : ℕ) × IsLeastRank (hops plan) line rank) where
  rank_if : (line : ℕ) (nominated : Bool) → is_nominated plan line ≡ nominated → ℕ
  rank_if line true is = (ranked line is).0
  rank_if line false is = 0

  rank_by : ℕ → ℕ
  rank_by line = rank_if line (is_nominated plan line) refl

  least-by : (line : ℕ) → IsNominated plan line → IsLeastRank (hops plan) line (rank_by line)
  unfolding rank_by rank_if
  least-by line nominated = of (is_nominated plan line) refl
    where
      of : (b : Bool) (is : is_nominated plan line ≡ b) → IsLeastRank (hops plan) line (rank_if line b is)
      of true is = (ranked line is).1
      of false is = absurd (true≢false (sym nominated ∙ is))

  rises-by : IsRising plan rank_by
  rises-by line next hop =
      let first = least-by line (hop-nominated plan line next hop) in
      let second = least-by next (hop-nominates plan line next hop) in
      omega (arith, second.longest (suc (rank_by line)) (line, hop, first.walked))

-- so there is none of the closed walks that rising ranks leave none of
pub none-bounded : (plan : Topology) (taken : Taken) (last : ℕ) (bound : Option ℕ) → is_some bound ≡ true
    → MatchOption bound ((other : ℕ) → ¬ IsSettlingBound plan last other) (IsSettlingBound plan last)
    → ((rank : ℕ → ℕ) → IsRising plan rank → (lines : List ℕ) → ¬ IsClosedWalk plan taken lines) → AreSoManyLoops plan taken 0
none-bounded plan taken last None some is none = absurd (true≢false (sym some))
none-bounded plan taken last (Some bound) some is none = record {
  walks = [];
  are_walks = record {
    each = tt;
    all = no_loop;
    in_order = tt;
  };
  many = refl;
}
  where
    no_loop : (lines : List ℕ) → IsLoop plan taken lines → ⊥
    no_loop lines loop = none (rank_by plan is.ranked) (rises-by plan is.ranked) lines loop.0
