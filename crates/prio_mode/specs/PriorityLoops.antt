-- Timing loops among elements that choose by priority alone. This project's own.
use Rattle.std.specs.Prelude.{ℕ, List}
use Rattle.sync_topo.specs.declared.event.Event.{Event}
use Rattle.sync_topo.specs.Topology.{Topology}
use Rattle.sync_topo.specs.Events.{IsEventList}
use Rattle.net_rules.specs.Signals.{signals_by}
use Rattle.net_rules.specs.Walks.{IsClosedWalk}
use Rattle.prio_mode.specs.PriorityAlone.{priority_taken_in}

-- in no millisecond is there a closed walk of what the elements take, whatever list of events the plan may have
abbrev pub NeverLoops : Topology → Type 0
NeverLoops plan =
    (events : List Event) → IsEventList plan events →
    (t : ℕ) (lines : List ℕ) → ¬ IsClosedWalk plan (priority_taken_in plan (signals_by plan events) t) lines
