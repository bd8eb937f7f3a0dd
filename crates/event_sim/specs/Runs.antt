-- What a simulator has come to that was told events up to a millisecond. This project's own.
use Rattle.std.specs.Prelude.{◌≡◌, ◌≤◌, ℕ, suc, true, false, List, length, Some}
use Rattle.sync_topo.specs.declared.event.Event.{Event}
use Rattle.sync_topo.specs.Topology.{Topology}
use Rattle.sync_topo.specs.Sizes.{most_rows}
use Rattle.event_times.specs.EventTimes.{AreTold}
use Rattle.event_sim.specs.declared.change.Watch.{Watch}
use Rattle.event_sim.specs.declared.change.Watch.TheVariants.{Changes}
use Rattle.event_sim.specs.declared.change.Reach.{Reach}
use Rattle.event_sim.specs.declared.change.Reach.TheVariants.{Until, Stopped}
use Rattle.event_sim.specs.SimState.{SimState}
use Rattle.event_sim.specs.Standing.{StandsFor}
use Rattle.event_sim.specs.Answers.{IsLastFit}

-- it came to the end, or was stopped at a millisecond since changes are watched and they don't all fit
abbrev pub CameTo : Topology → List Event → Watch → ℕ → SimState → Reach → Type 0
CameTo plan events watch until sim Until =
    (sim.stopped ≡ false) × (sim.reached ≡ Some until) × (sim.net.next ≡ suc until)
CameTo plan events watch until sim (Stopped t) =
    (sim.stopped ≡ true) × (sim.reached ≡ Some t) × (watch ≡ Changes) × IsLastFit plan events t until

-- the simulator of a plan stands for these events, and for all others of which the same ones are told up
-- to the millisecond
pub record HasRun (plan : Topology) (events : List Event) (watch : Watch) (until : ℕ) (sim : SimState) (reach : Reach) : Type 0 where
  pub of_plan : sim.net.plan ≡ plan
  pub watches : sim.watch ≡ watch
  pub live : sim.spent ≡ false
  pub few : length sim.changes ≤ most_rows sim.net.plan
  pub stands : StandsFor sim events
  pub alike : (all : List Event) → AreTold plan all 0 until events → StandsFor sim all
  pub came : CameTo plan events watch until sim reach
