-- The answer to `chains`.
use Rattle.std.specs.Prelude.{◌≡◌, ℕ, List}
use Rattle.sync_topo.specs.Topology.{Topology}
use Rattle.sync_topo.specs.Hops.{IsCycle}
use Rattle.reach_rules.specs.declared.chain.Chain.{Chain}
use Rattle.reach_rules.specs.Chains.{AreRows}
use Rattle.plan_texts.specs.Chains.{chains_text}
use Rattle.sync_top.specs.declared.status.Status.{Status}
use Rattle.sync_top.specs.Status.{OnDoneOrRefuted}
use Rattle.sync_top.specs.Forms.Rank.{IsCycleText}

-- the rows of the longest chains, where the plan has no cycle of hops
abbrev pub IsChainsText : Topology → List ℕ → Type 0
IsChainsText plan text = ((lines : List ℕ) → ¬ IsCycle plan lines) × ((rows : List Chain) × AreRows plan rows × (text ≡ chains_text plan rows))

-- so; or the first cycle
abbrev pub IsChained : Topology → Status → List ℕ → Type 0
IsChained plan status text = OnDoneOrRefuted status (IsChainsText plan text) (IsCycleText plan text)
