-- The answer to `trial`: what the planner, the test of ranks and the simulator find of a ladder. This project's own.
use Rattle.std.specs.Prelude.{◌≡◌, ◌↔◌, ◌≤◌, ◌⊎◌, ℕ, ◌-◌, suc, Bool, IsTrue, List, [], ◌∷◌, ◌++◌, length, codes, slice_get}
use Rattle.std.specs.Fmt.{decimal}
use Rattle.std.specs.Option.{option_map_or}
use Rattle.sync_topo.specs.declared.event.Event.{Event}
use Rattle.sync_topo.specs.declared.event.What.TheVariants.{Down}
use Rattle.sync_topo.specs.declared.event.Part.TheVariants.{Link}
use Rattle.sync_topo.specs.Topology.{Topology}
use Rattle.sync_topo.specs.Sizes.{most_rows}
use Rattle.plan_gen.specs.Ladder.{ladder}
use Rattle.net_rules.specs.Signals.{signals_by}
use Rattle.net_rules.specs.History.{out_at}
use Rattle.net_rules.specs.Settled.{IsSettled}
use Rattle.net_rules.specs.Settling.{IsGreatest, IsRank}
use Rattle.net_rules.specs.Safety.{IsLoopFree}
use Rattle.event_sim.specs.declared.change.Change.{Change}
use Rattle.event_sim.specs.Rows.{rows_until}
use Rattle.event_sim.specs.Answers.{IsLastFit}
use Rattle.trace_report.specs.Words.{change_row}
use Rattle.trace_report.specs.LastParts.{settled_part}
use Rattle.sync_top.specs.declared.status.Status.{Status}
use Rattle.sync_top.specs.declared.status.Status.TheVariants.{Done}
use Rattle.sync_top.specs.declared.trial.TheConstants.{LINK_FAILS_AT, TRIAL_END}

-- what happens in a trial: the signal of the ladder's first link, S1, fails, and stays so
abbrev pub trial_events : List Event
trial_events = record { at = LINK_FAILS_AT; what = Down (Link 0) } ∷ []

-- the rows of a run up to a millisecond that a report of it has: all of them where they fit, and else those up
-- to the last millisecond up to which all fit
abbrev pub AreReportRows : Topology → List Event → ℕ → List Change → Type 0
AreReportRows plan events until rows =
    ((length (rows_until plan events (suc until)) ≤ most_rows plan) × (rows ≡ rows_until plan events (suc until)))
    ⊎ ((t : ℕ) × IsLastFit plan events t until × (rows ≡ rows_until plan events (suc t)))

-- a line of a word and a number
abbrev pub counted_line : List ℕ → ℕ → List ℕ
counted_line word number = word ++ codes " " ++ decimal number ++ codes "\n"

-- the line on the last row, which has nothing after its word where there is no row
abbrev pub last_line : Topology → List Change → List ℕ
last_line plan rows = codes "last " ++ option_map_or (change_row plan) (slice_get rows (length rows - 1)) (codes "\n")

-- the lines on the run of a plan: how many rows its report has, the last of them, and whether its end is settled
abbrev pub run_lines : Topology → List Change → Bool → List ℕ
run_lines plan rows settled = counted_line (codes "changes") (length rows) ++ last_line plan rows ++ settled_part settled

-- all six lines of a trial of n elements: first how many elements and links there are, and the greatest rank
abbrev pub trial_text : ℕ → Topology → ℕ → List Change → Bool → List ℕ
trial_text n plan top rows settled =
    counted_line (codes "trial") n ++ counted_line (codes "links") (length plan.links) ++ counted_line (codes "top") top ++ run_lines plan rows settled

-- the end of a run of a plan is settled
abbrev pub IsSettledAt : Topology → List Event → ℕ → Type 0
IsSettledAt plan events until = IsSettled plan (signals_by plan events) (out_at plan (signals_by plan events)) until

-- the text of a trial of n elements, over their plan
pub record IsTrialText (n : ℕ) (plan : Topology) (text : List ℕ) : Type 0 where
  -- no timing loop can form in the plan, which is a fact of every ladder
  pub accepted : IsLoopFree plan
  -- the greatest of its least ranks
  pub top : ℕ
  pub greatest : IsGreatest (IsRank plan) top
  -- the rows of the run that a report has
  pub rows : List Change
  pub are_rows : AreReportRows plan trial_events TRIAL_END rows
  -- whether its last millisecond is settled
  pub settled : Bool
  pub is_settled : IsTrue settled ↔ IsSettledAt plan trial_events TRIAL_END
  pub is : text ≡ trial_text n plan top rows settled

-- the answer to `trial`: the text of the ladder of so many elements, whether or not its changes fit
abbrev pub IsTrial : ℕ → Status → List ℕ → Type 0
IsTrial n status text = (status ≡ Done) × IsTrialText n (ladder n) text
