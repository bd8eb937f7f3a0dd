-- What a simulator that was told events up to a millisecond has come to.
use Rattle.std.proofs.Common.{◌≡◌, ℕ, suc, List, Some, Ok, sym, subst, ◌∙◌}
use Rattle.sync_topo.specs.declared.event.Event.{Event}
use Rattle.sync_topo.specs.Topology.{Topology}
use Rattle.event_times.specs.EventTimes.{AreTold}
use Rattle.event_sim.specs.declared.change.Watch.{Watch}
use Rattle.event_sim.specs.declared.change.Watch.TheVariants.{Changes, Nothing}
use Rattle.event_sim.specs.declared.change.Reach.{Reach}
use Rattle.event_sim.specs.declared.change.Reach.TheVariants.{Until, Stopped}
use Rattle.event_sim.specs.SimState.{SimState, first_after}
use Rattle.event_sim.specs.Standing.{StandsFor}
use Rattle.event_sim.specs.Answers.{is_stopped, OnUntil, IfStopped, IsLastFit}
use Rattle.event_sim.specs.Runs.{CameTo, HasRun}

-- how far it came, by the clauses of an advance from before 0
pub came_to : (plan : Topology) (events told : List Event) (watch : Watch) (until : ℕ) (made sim : SimState) (reach : Reach)
    → made.net.plan ≡ plan → made.watch ≡ watch → AreTold made.net.plan events (first_after made.reached) until told → StandsFor made events
    → sim.stopped ≡ is_stopped (Ok reach) → OnUntil (Ok reach) (sim.reached ≡ Some until) → OnUntil (Ok reach) (sim.net.next ≡ suc until)
    → IfStopped (Ok reach) (λ t. sim.reached ≡ Some t) → IfStopped (Ok reach) (λ t. made.watch ≡ Changes)
    → IfStopped (Ok reach) (λ t. (all : List Event) → AreTold made.net.plan all (first_after made.reached) until told → StandsFor made all
    → IsLastFit made.net.plan all t until)
    → CameTo plan events watch until sim reach
came_to plan events told watch until made sim Until same watches are_told stands stopped reached next at watched last = (stopped, reached, next)
came_to plan events told watch until made sim (Stopped t) same watches are_told stands stopped reached next at watched last =
    (stopped, at, sym watches ∙ watched, subst (λ p. IsLastFit p events t until) same (last events are_told stands))

-- one that watches nothing comes to the end
pub unwatched : (plan : Topology) (events : List Event) (until : ℕ) (sim : SimState) (reach : Reach) → HasRun plan events Nothing until sim reach
    → CameTo plan events Nothing until sim Until
unwatched plan events until sim Until run = run.came
unwatched plan events until sim (Stopped t) run = absurd (cc (run.came.2))
