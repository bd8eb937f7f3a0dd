-- A timing loop that forced switches bring about among elements that choose by priority alone. This project's own.
use Rattle.std.specs.Prelude.{ℕ, List, map}
use Rattle.sync_topo.specs.declared.event.Event.{Event}
use Rattle.sync_topo.specs.declared.event.What.TheVariants.{Forced}
use Rattle.sync_topo.specs.Topology.{Topology}
use Rattle.sync_topo.specs.Lines.{line_input, receiver_of}
use Rattle.sync_topo.specs.Events.{IsEventList}
use Rattle.net_rules.specs.Signals.{signals_by}
use Rattle.net_rules.specs.Walks.{AreApart, IsClosedWalk}
use Rattle.prio_mode.specs.PriorityAlone.{priority_taken_in}

-- a forced switch to each of some lines, in their order, all at 0
abbrev pub forced_on : List ℕ → List Event
forced_on lines = map (λ line. record { at = 0; what = Forced (line_input line) }) lines

-- the lines have different receivers, and under the forced switches to them at 0 they are a closed walk at 0
pub record IsForcedLoop (plan : Topology) (lines : List ℕ) : Type 0 where
  pub receivers_apart : AreApart (map (receiver_of plan) lines)
  pub valid : IsEventList plan (forced_on lines)
  pub closed : IsClosedWalk plan (priority_taken_in plan (signals_by plan (forced_on lines)) 0) lines
