-- The answer to `hops`.
use Rattle.std.specs.Prelude.{◌≡◌, ℕ, List}
use Rattle.sync_topo.specs.Topology.{Topology}
use Rattle.nominate.specs.HopCount.{Counts, AreHopCounts}
use Rattle.plan_texts.specs.Hops.{hops_text}
use Rattle.sync_top.specs.declared.status.Status.{Status}
use Rattle.sync_top.specs.declared.status.Status.TheVariants.{Done}

-- the rows of the hop counts
abbrev pub AreHopRows : Topology → Status → List ℕ → Type 0
AreHopRows plan status text = (status ≡ Done) × ((counts : Counts) × AreHopCounts plan counts × (text ≡ hops_text plan counts))
