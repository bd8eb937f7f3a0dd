-- What the planner's answers are to the test of ranks.
use Rattle.std.proofs.Common.{◌≡◌, ℕ, List, [], ◌∷◌, ◌++◌}
use Rattle.std.specs.Prelude.{◌<◌}
use Rattle.std.specs.List.{All}
use Rattle.std.proofs.lemmas.List.Elements.{All-cons, All-nil}
use Rattle.sync_topo.specs.Topology.{Topology}
use Rattle.sync_topo.specs.Lines.{line_count}
use Rattle.sync_topo.proofs.LineLaws.{IsNominated-within}
use Rattle.sync_topo.specs.declared.returns.ReturnRule.{ReturnRule}
use Rattle.sync_topo.specs.Hops.{hops_by}
use Rattle.cycle_plan.proofs.HopFacts.{hop_parts}
use Rattle.sync_topo.specs.Ranks.{IsBefore, Leads, IsFirstCycle, Walks, Circles}

-- lines each of which is before the next are a walk
walk_from : (returns : ReturnRule) (plan : Topology) (first : ℕ) (rest : List ℕ) (last : ℕ) → Leads (IsBefore (hops_by returns plan)) first rest last → Walks (hops_by returns plan) (first ∷ rest ++ last ∷ [])
walk_from returns plan first [] last leads = (leads.hops, tt)
walk_from returns plan first (next ∷ rest) last leads = (leads.0.hops, walk_from returns plan next rest last leads.1)

-- the first cycle is a cycle of hops
pub IsCycle-first : (returns : ReturnRule) (plan : Topology) (lines : List ℕ) → IsFirstCycle (hops_by returns plan) lines → Circles (hops_by returns plan) lines
IsCycle-first returns plan [] never = never
IsCycle-first returns plan (line ∷ rest) first = walk_from returns plan line rest line first.closes

-- lines each of which is before the next are lines of the plan
all_within : (returns : ReturnRule) (plan : Topology) (first : ℕ) (rest : List ℕ) (last : ℕ) → Leads (IsBefore (hops_by returns plan)) first rest last
    → All (λ line. line < line_count plan) (first ∷ rest)
all_within returns plan first [] last leads =
    All-cons (λ line. line < line_count plan) first [] (IsNominated-within plan first (hop_parts returns plan first last leads.hops).0) (All-nil (λ line. line < line_count plan))
all_within returns plan first (next ∷ rest) last leads =
    All-cons (λ line. line < line_count plan) first (next ∷ rest) (IsNominated-within plan first (hop_parts returns plan first next leads.0.hops).0)
    (all_within returns plan next rest last leads.1)

pub All_within-first : (returns : ReturnRule) (plan : Topology) (lines : List ℕ) → IsFirstCycle (hops_by returns plan) lines → All (λ line. line < line_count plan) lines
All_within-first returns plan [] never = absurd never
All_within-first returns plan (line ∷ rest) first = all_within returns plan line rest line first.closes
