-- Beside specs/Agreed.antt, under no public clause: what is found of a plan's priorities, and what only private clauses
-- cite of the number of high levels.
use Rattle.std.specs.Prelude.{◌≡◌, ◌<◌, ◌≤◌, ◌⊎◌, ℕ, length}
use Rattle.sync_ql.specs.Level.{place_of}
use Rattle.sync_ql.specs.Table.{levels_of}
use Rattle.sync_topo.specs.Topology.{Topology}
use Rattle.net_rules.specs.Settings.{own_level}

-- by the first n elements, the place of the worst level that is better than each own clock, and one
pub record IsHighBelow (plan : Topology) (n high : ℕ) : Type 0 where
  pub most : (element : ℕ) → element < n → high ≤ place_of (own_level plan element)
  pub reached : (high ≡ length (levels_of plan.option)) ⊎ ((element : ℕ) × (element < n) × (high ≡ place_of (own_level plan element)))
  pub within : high ≤ length (levels_of plan.option)
