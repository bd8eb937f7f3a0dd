-- Private to this crate: the simulator that all cases begin with.
use Rattle.std.specs.Prelude.{◌≡◌, ◌<◌, ℕ, false, List}
use Rattle.sync_topo.specs.declared.event.Event.{Event}
use Rattle.sync_topo.specs.Topology.{Topology}
use Rattle.sync_topo.specs.Events.{IsEventList}
use Rattle.net_rules.specs.Signals.{events_at}
use Rattle.event_sim.specs.declared.change.Watch.TheVariants.{Nothing}
use Rattle.event_sim.specs.SimState.{SimState, first_after}
use Rattle.event_sim.specs.Standing.{StandsFor}

-- before a millisecond just these events happen
pub record AreCommonBefore (plan : Topology) (common : List Event) (at : ℕ) (all : List Event) : Type 0 where
  pub ordered : IsEventList plan all
  pub here : (t : ℕ) → t < at → events_at t all ≡ events_at t common

-- it watches nothing, has come as far as up to a millisecond, and stands for all events of every run
-- that has just these before it
pub record IsBase (common : List Event) (at : ℕ) (sim : SimState) : Type 0 where
  pub live : sim.spent ≡ false
  pub going : sim.stopped ≡ false
  pub unwatched : sim.watch ≡ Nothing
  pub reached : first_after sim.reached ≡ at
  pub stands : (all : List Event) → AreCommonBefore sim.net.plan common at all → StandsFor sim all
