-- What a run writes is the report of the plan and the events.
use Rattle.std.proofs.Common.{ℕ, List, Option, subst}
use Rattle.sync_topo.specs.declared.event.Event.{Event}
use Rattle.sync_topo.specs.Topology.{Topology}
use Rattle.event_sim.specs.declared.change.Watch.TheVariants.{Changes}
use Rattle.event_sim.specs.declared.change.Reach.TheVariants.{Until, Stopped}
use Rattle.event_sim.specs.SimState.{SimState}
use Rattle.event_sim.specs.Runs.{HasRun}
use Rattle.trace_report.specs.Report.{IsReportText}
use Rattle.sync_top.specs.declared.status.Status.TheVariants as status
use Rattle.sync_top.specs.Forms.Sim.{IsReport}
use Rattle.sync_top.proofs.RunLaws.{all_fit}

module _ (plan : Topology) (events : List Event) (until : ℕ) (sim : SimState) (text : List ℕ) where
  -- all changes up to the end fit
  pub whole : HasRun plan events Changes until sim Until → IsReportText sim.net.plan events sim.reached Until text → IsReport plan events until status.Done text
  whole run is = (
    all_fit plan events until sim run,
    subst (λ (r : Option ℕ). IsReportText plan events r Until text) run.came.1 (subst (λ (p : Topology). IsReportText p events sim.reached Until text) run.of_plan is),
  )

  -- they don't
  pub short : (t : ℕ) → HasRun plan events Changes until sim (Stopped t) → IsReportText sim.net.plan events sim.reached (Stopped t) text → IsReport plan events until status.Stopped text
  short t run is = (t, run.came.3, subst (λ (p : Topology). IsReportText p events sim.reached (Stopped t) text) run.of_plan is)
