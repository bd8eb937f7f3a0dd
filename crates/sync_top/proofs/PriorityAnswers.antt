-- That the forms of priority alone have one answer.
use Rattle.std.proofs.Common.{ℕ, List, sym, ◌∙◌, ap}
use Rattle.sync_topo.specs.declared.event.Event.{Event}
use Rattle.sync_topo.specs.Topology.{Topology}
use Rattle.cycle_plan.proofs.OneCycle.{one_cycle}
use Rattle.sync_topo.specs.Hops.{hops_any}
use Rattle.prio_mode.specs.PriorityReport.{IsPriorityReport}
use Rattle.prio_mode.proofs.OneReport.{one_priority_report}
use Rattle.sync_topo.specs.declared.returns.ReturnRule.TheVariants.{Allowed}
use Rattle.prio_mode.specs.ForcedText.{forced_text}
use Rattle.sync_top.specs.Forms.Priority.{IsPriorityRanksText, IsForcedText, IsPriorityPlanned, IsPriorityRun}
use Rattle.sync_top.proofs.OneEnd.{IsOne, one-refuted}
use Rattle.sync_top.proofs.OneText.{same_text}
use Rattle.sync_top.proofs.Verdicts.{no_first_cycle}

-- the planner finds one thing
pub one_priority_planned : (plan : Topology) → IsOne (IsPriorityPlanned plan)
one_priority_planned plan =
    one-refuted (IsPriorityRanksText plan) (IsForcedText plan)
    (λ text another one two. one.3 ∙ same_text (hops_any plan) plan one.0 two.0 one.1 two.1 ∙ sym two.3)
    (λ text another one two. one.3 ∙ ap (forced_text plan) (one_cycle (hops_any plan) one.0 two.0 one.1 two.1) ∙ sym two.3)
    (λ text another ranks loop. no_first_cycle Allowed plan ranks.0 loop.0 ranks.2 loop.1)

-- a run gives one report
pub one_priority_run : (plan : Topology) (events : List Event) (until : ℕ) → IsOne (IsPriorityRun plan events until)
one_priority_run plan events until =
    one-refuted (IsPriorityReport plan events until) (λ text. ⊥) (one_priority_report plan events until) (λ text another one two. absurd one) (λ text another one two. two)
