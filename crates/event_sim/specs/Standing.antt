-- What a simulator has to do with its plan and all events.
use Rattle.std.specs.Prelude.{◌≡◌, ℕ, List, []}
use Rattle.sync_topo.specs.declared.event.Event.{Event}
use Rattle.sync_topo.specs.Topology.{Topology}
use Rattle.sync_net.specs.Standing as Net
use Rattle.event_sim.specs.declared.change.Change.{Change}
use Rattle.event_sim.specs.declared.change.Watch.{Watch}
use Rattle.event_sim.specs.declared.change.Watch.TheVariants.{Changes, Nothing}
use Rattle.event_sim.specs.Rows.{rows_until}
use Rattle.event_sim.specs.SimState.{SimState, first_after}

-- the rows of the first n milliseconds where changes are watched, and none otherwise
abbrev pub watched_rows : Watch → Topology → List Event → ℕ → List Change
watched_rows Changes plan events n = rows_until plan events n
watched_rows Nothing plan events n = []

-- a simulator stands for its plan and all events, of which only those that its network was told count:
-- so does its network after the last millisecond that it made, and the changes are the rows up to the
-- millisecond that is reached
pub record StandsFor (sim : SimState) (events : List Event) : Type 0 where
  pub net : Net.StandsFor sim.net events sim.net.next
  pub rows : sim.changes ≡ watched_rows sim.watch sim.net.plan events (first_after sim.reached)
