-- What becomes of a network in some cases: a row for each. This project's own.
use Rattle.std.specs.Prelude.{◌<◌, ℕ, List, length, IfSome}
use Rattle.std.specs.List.{AllZip}
use Rattle.sync_topo.specs.declared.event.Case.{Case}
use Rattle.sync_topo.specs.declared.event.Event.{Event}
use Rattle.sync_topo.specs.Topology.{Topology}
use Rattle.sync_sweep.specs.declared.studying.StudyRow.{StudyRow}
use Rattle.sync_sweep.specs.Cases.{merged}
use Rattle.sync_sweep.specs.OnWay.{before_own, IsOnWay}
use Rattle.sync_sweep.specs.Outcomes.{IsOutcome, taken_by}
use Rattle.timings.specs.Timing.{IsTiming}

-- the row of a run with the common events and those of a case, at the end of a millisecond; what the
-- case costs on the way is counted after the millisecond before the first of its own events
pub record IsStudyRow (plan : Topology) (common own : List Event) (until : ℕ) (row : StudyRow) : Type 0 where
  pub outcome : IsOutcome plan (merged common own) until row.outcome
  pub timing : IsTiming plan (taken_by plan (merged common own) until) row.timing
  pub way : IsOnWay plan (merged common own) (before_own own until) until row.way

-- the rows of some cases, each that of its own run, in order
abbrev pub AreStudyRows : Topology → List Event → ℕ → List Case → List StudyRow → Type 0
AreStudyRows plan common until cases rows = AllZip (λ case. IsStudyRow plan common case.events until) cases rows

-- the elements that a row names are of a plan
pub record IsOfPlan (plan : Topology) (row : StudyRow) : Type 0 where
  pub first : IfSome row.timing.first (λ element. element < length plan.elements)
  pub darkest : IfSome row.way.darkest (λ element. element < length plan.elements)
