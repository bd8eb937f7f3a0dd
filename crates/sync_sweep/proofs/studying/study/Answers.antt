use Rattle.std.proofs.Common.{◌≡◌, ℕ, length, sym, subst}
use Rattle.std.specs.List.{All, AllZip}
use Rattle.std.proofs.lemmas.Result.{IfOk-weaker}
use Rattle.sync_sweep.specs.declared.studying.StudyRow.{StudyRow}
use Rattle.sync_sweep.specs.private.Rows.{IsStudyRowOf}
use Rattle.sync_sweep.specs.Study.{IsStudyRow, AreStudyRows, IsOfPlan}
use Rattle.timings.specs.Timing.{IsTiming}
use Rattle.sync_sweep.specs.private.Working.{AreWorked, IsSettledIfDue}
use Rattle.sync_sweep.proofs.ChunkLemmas.{zip-length}
use Rattle.sync_sweep.proofs.StudyLemmas.{rows-of-cases}
use Rattle.sync_sweep.proofs.studying.study.Goals as goal

pub returns : goal.returns
returns g c =
    let plan = c.args.plan.now in
    let common = c.args.common.now in
    let cases = c.args.cases.now in
    let until : ℕ = c.args.until in
    let list = c.as_slice.result.now in
    let worked : AreWorked IsTiming plan common until cases list = subst (AreWorked IsTiming plan common until cases) (sym c.as_slice.ensures) c.in_ok-worked.ensures.worked in
    record {
      rows = IfOk-weaker c.study_rows.result (AllZip IsStudyRowOf list) (AreStudyRows plan common until cases)
          (λ rows same. (rows-of-cases plan common until cases list rows worked same).0) c.study_rows.ensures;
      count = IfOk-weaker c.study_rows.result (AllZip IsStudyRowOf list) (λ rows. length rows ≡ length cases)
          (λ rows same. sym (zip-length (λ case. IsStudyRow plan common case.events until) cases rows
          (rows-of-cases plan common until cases list rows worked same).0)) c.study_rows.ensures;
      of_plan = IfOk-weaker c.study_rows.result (AllZip IsStudyRowOf list) (All (IsOfPlan plan))
          (λ rows same k d within. ((rows-of-cases plan common until cases list rows worked same).1 k d within).of_plan) c.study_rows.ensures;
      bound = IfOk-weaker c.study_rows.result (AllZip IsStudyRowOf list) (All (λ (row : StudyRow). IsSettledIfDue until row.outcome))
          (λ rows same k d within. ((rows-of-cases plan common until cases list rows worked same).1 k d within).due) c.study_rows.ensures;
    }
