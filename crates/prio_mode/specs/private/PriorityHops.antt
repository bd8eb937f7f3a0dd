-- Beside specs/PriorityHops.antt, under no public clause: what a test of ranks finds where elements choose by priority
-- alone.
use Rattle.std.specs.Prelude.{ℕ}
use Rattle.sync_topo.specs.Topology.{Topology}
use Rattle.sync_topo.specs.Hops.{hops_any}
use Rattle.rank_cert.specs.Ranks.{Ranks, IsFirstFallOver}

-- the first hop, by its first line and then by its second, over which the rank doesn't rise
abbrev pub IsFirstFall : Topology → Ranks → ℕ → ℕ → Type 0
IsFirstFall plan ranks line next = IsFirstFallOver (hops_any plan) ranks line next
