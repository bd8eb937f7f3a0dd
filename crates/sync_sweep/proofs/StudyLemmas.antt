-- The rows of a study, by what the engine gives.
use Rattle.std.proofs.Common.{ℕ, List, [], ◌∷◌, sym, subst}
use Rattle.std.specs.List.{All, AllZip}
use Rattle.std.proofs.lemmas.List.Elements.{All-cons, All-nil}
use Rattle.sync_topo.specs.declared.event.Case.{Case}
use Rattle.sync_topo.specs.declared.event.Event.{Event}
use Rattle.sync_topo.specs.Topology.{Topology}
use Rattle.sync_sweep.specs.declared.studying.StudyRow.{StudyRow}
use Rattle.sync_sweep.specs.declared.working.Worked.{Worked}
use Rattle.sync_sweep.specs.Cases.{merged}
use Rattle.sync_sweep.specs.Outcomes.{IsOutcome, taken_by}
use Rattle.sync_sweep.specs.private.Rows.{IsStudyRowOf}
use Rattle.sync_sweep.specs.OnWay.{before_own, IsOnWay}
use Rattle.sync_sweep.specs.Study.{IsStudyRow, AreStudyRows, IsOfPlan}
use Rattle.timings.specs.Timing.{IsTiming}
use Rattle.sync_sweep.specs.private.Working.{IsSettledIfDue, IsWorked, AreWorked}
use Rattle.timings.proofs.TimingLemmas.{first-within}
use Rattle.sync_sweep.proofs.WayLemmas.{darkest-within}

-- what a row promises beside what it says
pub record IsSound (plan : Topology) (until : ℕ) (row : StudyRow) : Type 0 where
  pub of_plan : IsOfPlan plan row
  pub due : IsSettledIfDue until row.outcome

row-of : (plan : Topology) (common own : List Event) (until : ℕ) (worked : Worked) (row : StudyRow) → IsStudyRowOf worked row
    → IsWorked IsTiming plan (merged common own) (before_own own until) until worked → IsStudyRow plan common own until row × IsSound plan until row
row-of plan common own until worked row same is =
    let events = merged common own in
    let way : IsOnWay plan events (before_own own until) until row.way = subst (IsOnWay plan events (before_own own until) until) (sym same.way) is.way in
    let timing : IsTiming plan (taken_by plan events until) row.timing = subst (IsTiming plan (taken_by plan events until)) (sym same.timing) is.timing in (
      record { outcome = subst (IsOutcome plan events until) (sym same.outcome) is.outcome; timing = timing; way = way },
      record {
        of_plan = record {
          first = first-within plan (taken_by plan events until) row.timing timing;
          darkest = darkest-within plan events (before_own own until) until row.way way;
        };
        due = subst (IsSettledIfDue until) (sym same.outcome) is.due;
      },
    )

pub rows-of-cases : (plan : Topology) (common : List Event) (until : ℕ) (cases : List Case) (worked : List Worked) (rows : List StudyRow)
    → AreWorked IsTiming plan common until cases worked → AllZip IsStudyRowOf worked rows
    → AreStudyRows plan common until cases rows × All (IsSound plan until) rows
rows-of-cases plan common until [] [] [] are same = (tt, All-nil (IsSound plan until))
rows-of-cases plan common until [] [] (row ∷ rows) are same = absurd same
rows-of-cases plan common until [] (one ∷ worked) rows are same = absurd are
rows-of-cases plan common until (case ∷ cases) [] rows are same = absurd are
rows-of-cases plan common until (case ∷ cases) (one ∷ worked) [] are same = absurd same
rows-of-cases plan common until (case ∷ cases) (one ∷ worked) (row ∷ rows) are same =
    let here = row-of plan common case.events until one row same.0 are.0 in
    let rest = rows-of-cases plan common until cases worked rows are.1 same.1 in
    ((here.0, rest.0), All-cons (IsSound plan until) row rows here.1 rest.1)
