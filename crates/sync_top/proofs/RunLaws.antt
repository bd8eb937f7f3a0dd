-- What a simulator that was told events up to a millisecond has come to.
use Rattle.std.proofs.Common.{◌≡◌, ◌<◌, ◌≤◌, ◌-◌, ℕ, zero, suc, Bool, List, [], ◌++◌, length, Option, Some, ap, subst, ◌∙◌, inl, inr, arith}
use Rattle.std.proofs.lemmas.List.{append_assoc}
use Rattle.std.specs.Prelude.{◌↔◌, IsTrue, codes}
use Rattle.std.specs.List.{All}
use Rattle.sync_topo.specs.declared.event.Event.{Event}
use Rattle.sync_topo.specs.Topology.{Topology}
use Rattle.sync_topo.specs.Events.{Fits, IsEventList}
use Rattle.settle_trace.specs.Now.{IsSettledNow}
use Rattle.plan_gen.specs.Ladder.{ladder}
use Rattle.event_sim.specs.declared.change.Change.{Change}
use Rattle.event_sim.specs.declared.change.Watch.{Watch}
use Rattle.event_sim.specs.declared.change.Watch.TheVariants.{Changes}
use Rattle.event_sim.specs.declared.change.Reach.{Reach}
use Rattle.event_sim.specs.declared.change.Reach.TheVariants.{Until, Stopped}
use Rattle.sync_topo.specs.Sizes.{most_rows}
use Rattle.event_sim.specs.Rows.{rows_until}
use Rattle.event_sim.specs.SimState.{SimState, first_after}
use Rattle.event_sim.specs.Standing.{watched_rows}
use Rattle.event_sim.specs.Runs.{HasRun}
use Rattle.sync_top.specs.Forms.Trial.{trial_events, counted_line, last_line, run_lines, trial_text, AreReportRows, IsSettledAt}
use Rattle.trace_report.specs.LastParts.{settled_part}

-- the changes of one that watches them are the rows that a report has
module _ (plan : Topology) (events : List Event) (until : ℕ) (sim : SimState) where
  rows_at : (u : ℕ) (reach : Reach) → HasRun plan events Changes until sim reach → sim.reached ≡ Some u → sim.changes ≡ rows_until plan events (suc u)
  rows_at u reach run reached =
      run.stands.rows ∙ ap (λ (w : Watch). watched_rows w sim.net.plan events (first_after sim.reached)) run.watches
      ∙ ap (λ (p : Topology). rows_until p events (first_after sim.reached)) run.of_plan
      ∙ ap (λ (r : Option ℕ). rows_until plan events (first_after r)) reached

  pub all_fit : HasRun plan events Changes until sim Until → length (rows_until plan events (suc until)) ≤ most_rows plan
  all_fit run = subst (λ (r : List Change). length r ≤ most_rows plan) (rows_at until Until run run.came.1)
      (subst (λ (p : Topology). length sim.changes ≤ most_rows p) run.of_plan run.few)

  pub report_rows : (reach : Reach) → HasRun plan events Changes until sim reach → AreReportRows plan events until sim.changes
  report_rows Until run = inl (all_fit run, rows_at until Until run run.came.1)
  report_rows (Stopped t) run = inr (t, run.came.3, rows_at t (Stopped t) run run.came.1)

  -- its last step's millisecond is settled just where the end of the run is
  pub settled_at : (settled : Bool) → sim.net.plan ≡ plan → sim.net.next ≡ suc until → IsTrue settled ↔ IsSettledNow sim.net events
      → IsTrue settled ↔ IsSettledAt plan events until
  settled_at settled same next exact =
      let now : sim.net.next - 1 ≡ until = omega (arith, next) in
      subst (λ (p : Topology). IsTrue settled ↔ IsSettledAt p events until) same
      (subst (λ t. IsTrue settled ↔ IsSettledAt sim.net.plan events t) now exact)

-- three lines that are put one after another are the lines on a run
pub run-text : (plan : Topology) (rows : List Change) (settled : Bool) (text counted last whole : List ℕ)
    → counted ≡ text ++ counted_line (codes "changes") (length rows) → last ≡ counted ++ last_line plan rows → whole ≡ last ++ settled_part settled
    → whole ≡ text ++ run_lines plan rows settled
run-text plan rows settled text counted last whole is_counted is_last is_whole =
    let first = counted_line (codes "changes") (length rows) in
    let both : last ≡ text ++ (first ++ last_line plan rows) = is_last ∙ ap (λ t. t ++ last_line plan rows) is_counted ∙ append_assoc text first (last_line plan rows) in
    is_whole ∙ ap (λ t. t ++ settled_part settled) both ∙ append_assoc text (first ++ last_line plan rows) (settled_part settled)

-- so are those that come before them, on the whole
pub trial-text : (n : ℕ) (plan : Topology) (top number links : ℕ) (rows : List Change) (settled : Bool) (empty first second third whole : List ℕ)
    → empty ≡ [] → number ≡ n → links ≡ length plan.links → first ≡ empty ++ counted_line (codes "trial") number
    → second ≡ first ++ counted_line (codes "links") links → third ≡ second ++ counted_line (codes "top") top → whole ≡ third ++ run_lines plan rows settled
    → whole ≡ trial_text n plan top rows settled
trial-text n plan top number links rows settled empty first second third whole is_empty is_n is_links is_first is_second is_third is_whole =
    let one : first ≡ counted_line (codes "trial") n =
    is_first ∙ ap (λ t. t ++ counted_line (codes "trial") number) is_empty ∙ ap (counted_line (codes "trial")) is_n in
    let two : second ≡ counted_line (codes "trial") n ++ counted_line (codes "links") (length plan.links) =
    is_second ∙ ap (λ t. t ++ counted_line (codes "links") links) one ∙ ap (λ k. counted_line (codes "trial") n ++ counted_line (codes "links") k) is_links in
    is_whole ∙ ap (λ t. t ++ run_lines plan rows settled) (is_third ∙ ap (λ t. t ++ counted_line (codes "top") top) two)

-- the event of a trial is a list of events of a plan that has a link
event_fits : (plan : Topology) → 0 < length plan.links → All (Fits plan) trial_events
event_fits plan some zero other within = some
event_fits plan some (suc k) other within = absurd (omega (arith, within))

pub events-listed : (plan : Topology) → 0 < length plan.links → IsEventList plan trial_events
events-listed plan some = record { fit = event_fits plan some; in_order = λ k other later. absurd (omega (arith, later)) }

-- the ladder has a link
pub has_link : (n : ℕ) → 2 ≤ n → 0 < length (ladder n).links
has_link zero two = absurd (omega (arith, two))
has_link (suc zero) two = absurd (omega (arith, two))
has_link (suc (suc m)) two = omega arith
