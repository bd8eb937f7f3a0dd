-- Two elements that take their timing from each other. This project's own.
use Rattle.std.specs.Prelude.{ℕ, [], ◌∷◌}
use Rattle.sync_topo.specs.Topology.{Topology}
use Rattle.net_rules.specs.Signals.{Signals}
use Rattle.net_rules.specs.History.{Levels}
use Rattle.net_rules.specs.Walks.{IsClosedWalk, IsFacingPair}
use Rattle.net_rules.specs.Safety.{taken_in}

-- in a millisecond two lines are a closed walk, and a facing pair
pub record Faces (plan : Topology) (signals : Signals) (out : Levels) (line back t : ℕ) : Type 0 where
  pub walk : IsClosedWalk plan (taken_in plan signals out t) (line ∷ back ∷ [])
  pub pair : IsFacingPair plan (line ∷ back ∷ [])
