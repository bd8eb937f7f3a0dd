use Rattle.std.proofs.Common.{ℕ, ◌<◌}
use Rattle.sync_topo.specs.Lines.{sender_of, receiver_of}
use Rattle.nominate.specs.HopCount.{count_at}
use Rattle.nominate.specs.LocalFacts.{AreNear}
use Rattle.nominate.proofs.facts.near_ok.Given as goal

abbrev pub invariant-loop-number : goal.invariant-loop-number
invariant-loop-number l = (line : ℕ) → line < l.number → AreNear (count_at l.hops (sender_of l.plan line)) (count_at l.hops (receiver_of l.plan line))
