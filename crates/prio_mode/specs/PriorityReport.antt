-- The report of a run of elements that choose by priority alone. This project's own.
use Rattle.std.specs.Prelude.{◌≡◌, ℕ, suc, List, ◌++◌, codes}
use Rattle.sync_topo.specs.declared.event.Event.{Event}
use Rattle.sync_topo.specs.Topology.{Topology}
use Rattle.net_rules.specs.Signals.{signals_by}
use Rattle.closed_walks.specs.Loops.{AreLoops}
use Rattle.closed_walks.specs.WalkText.{walk_rows}
use Rattle.prio_mode.specs.PriorityAlone.{priority_taken_in}
use Rattle.prio_mode.specs.PriorityRows.{rows_until}

-- the rows of all changes up to and with a millisecond, and the closed walks in it
pub record IsPriorityReport (plan : Topology) (events : List Event) (until : ℕ) (text : List ℕ) : Type 0 where
  pub walks : List (List ℕ)
  pub loops : AreLoops plan (priority_taken_in plan (signals_by plan events) until) walks
  pub text_is : text ≡ codes "changes\n" ++ rows_until plan events (suc until) ++ codes "loops\n" ++ walk_rows plan walks
