-- Beside specs/SimKept.antt, under no public clause: what contracts see of a simulator, and what is true of each.
use Rattle.std.specs.Prelude.{◌≡◌, ◌≤◌, false}
use Rattle.event_sim.specs.declared.sim.Sim.TheInside.{Inside}
use Rattle.std.specs.List.{All}
use Rattle.event_sim.specs.Changes.{IsChangeOf}
use Rattle.event_sim.specs.SimState.{first_after}
use Rattle.event_sim.specs.private.Running.{IsOpen}

-- unless it is spent, its network is not; and unless it is stopped too, it may go on from where its
-- network is
pub record IsKept (sim : Inside) : Type 0 where
  pub live : sim.spent ≡ false → sim.run.net.spent ≡ false
  pub going : sim.spent ≡ false → sim.stopped ≡ false → IsOpen sim.run
  pub of_plan : sim.spent ≡ false → All (IsChangeOf sim.run.net.plan) sim.run.changes.items
  pub behind : sim.spent ≡ false → first_after sim.reached ≤ sim.run.net.next
  pub reached : sim.spent ≡ false → sim.stopped ≡ false → sim.run.net.next ≡ first_after sim.reached
