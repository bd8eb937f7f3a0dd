-- Beside specs/Ranks.antt, under no public clause: ranks of lines, and the first hop over which they don't rise.
use Rattle.std.specs.Prelude.{ℕ}
use Rattle.sync_topo.specs.Topology.{Topology}
use Rattle.sync_topo.specs.Hops.{hops}
use Rattle.rank_cert.specs.Ranks.{Ranks, IsFirstFallOver}

-- both over the hops of networks with quality levels
abbrev pub IsFirstFall : Topology → Ranks → ℕ → ℕ → Type 0
IsFirstFall plan ranks line next = IsFirstFallOver (hops plan) ranks line next
