-- What a step is told, of all events of a run.
use Rattle.std.proofs.Common.{◌≡◌, ◌≤◌, ℕ, List, sym, subst}
use Rattle.sync_topo.specs.declared.event.Event.{Event}
use Rattle.sync_topo.specs.Topology.{Topology}
use Rattle.event_times.specs.EventTimes.{AreNext}
use Rattle.sync_net.specs.Evaluated.{IsContinued}

-- the next step goes on from the step before
pub continued : (plan was : Topology) (all : List Event) (next now : ℕ) (here : List Event) → was ≡ plan → next ≤ now
    → AreNext plan all next now here → IsContinued was all next now here
continued plan was all next now here same later is = subst (λ (p : Topology). IsContinued p all next now here) (sym same)
    (record { ordered = is.here.ordered; later = later; none = is.none; here = is.here.here })
