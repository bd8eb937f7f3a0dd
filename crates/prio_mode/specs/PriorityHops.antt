-- What a test of ranks finds where elements choose by priority alone. This project's own.
use Rattle.sync_topo.specs.Topology.{Topology}
use Rattle.sync_topo.specs.Hops.{hops_any}
use Rattle.rank_cert.specs.Ranks.{Ranks, JudgesOver}
use Rattle.rank_cert.specs.declared.rising.Verdict.{Verdict}

-- what the test of ranks finds
abbrev pub Judges : Topology → Ranks → Verdict → Type 0
Judges plan ranks verdict = JudgesOver (hops_any plan) ranks verdict
