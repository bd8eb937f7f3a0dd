-- The settling bound after one millisecond, by the one after another.
use Rattle.std.proofs.Common.{◌≤◌, ◌-◌, ◌+◌, ℕ, arith}
use Rattle.sync_topo.specs.Topology.{Topology}
use Rattle.net_rules.specs.Settling.{IsSettlingBound}

-- it is later by as much as the millisecond
later-bound : (plan : Topology) (last until bound : ℕ) → last ≤ until → IsSettlingBound plan last bound → IsSettlingBound plan until (bound + (until - last))
later-bound plan last until bound early is = record {
  one_way = is.one_way;
  ranked = is.ranked;
  delay = is.delay;
  greatest_delay = is.greatest_delay;
  rank = is.rank;
  greatest_rank = is.greatest_rank;
  wait = is.wait;
  greatest_wait = is.greatest_wait;
  is = omega (arith, is.is, early);
}

-- or earlier
pub earlier-bound : (plan : Topology) (last until bound : ℕ) → last ≤ until → IsSettlingBound plan until bound → IsSettlingBound plan last (bound - (until - last))
earlier-bound plan last until bound early is = record {
  one_way = is.one_way;
  ranked = is.ranked;
  delay = is.delay;
  greatest_delay = is.greatest_delay;
  rank = is.rank;
  greatest_rank = is.greatest_rank;
  wait = is.wait;
  greatest_wait = is.greatest_wait;
  is = omega (arith, is.is, early);
}

pub none-earlier : (plan : Topology) (last until : ℕ) → last ≤ until → ((other : ℕ) → ¬ IsSettlingBound plan until other) → (other : ℕ) → ¬ IsSettlingBound plan last other
none-earlier plan last until early none other is = none (other + (until - last)) (later-bound plan last until other early is)
