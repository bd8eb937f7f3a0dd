-- A run has one report.
use Rattle.std.proofs.Common.{◌≡◌, ℕ, suc, List, ◌++◌, ap, sym, ◌∙◌}
use Rattle.std.specs.Prelude.{codes}
use Rattle.sync_topo.specs.declared.event.Event.{Event}
use Rattle.sync_topo.specs.Topology.{Topology}
use Rattle.net_rules.specs.Signals.{signals_by}
use Rattle.closed_walks.specs.WalkText.{walk_rows}
use Rattle.closed_walks.proofs.OneList.{one-loops}
use Rattle.prio_mode.specs.PriorityAlone.{priority_taken_in}
use Rattle.prio_mode.specs.PriorityRows.{rows_until}
use Rattle.prio_mode.specs.PriorityReport.{IsPriorityReport}

pub one_priority_report : (plan : Topology) (events : List Event) (until : ℕ) (text other : List ℕ) → IsPriorityReport plan events until text
    → IsPriorityReport plan events until other → text ≡ other
one_priority_report plan events until text other first second =
    first.text_is
    ∙ ap (λ walks. codes "changes\n" ++ rows_until plan events (suc until) ++ codes "loops\n" ++ walk_rows plan walks)
    (one-loops plan (priority_taken_in plan (signals_by plan events) until) first.walks second.walks first.loops second.loops)
    ∙ sym second.text_is
