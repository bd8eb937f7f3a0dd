-- The answer to `study`.
use Rattle.std.specs.Prelude.{◌≡◌, ℕ, List}
use Rattle.sync_topo.specs.Topology.{Topology}
use Rattle.event_file.specs.declared.case_file.Cases.{Cases}
use Rattle.event_file.specs.CaseText.{cases_of}
use Rattle.sync_sweep.specs.declared.studying.StudyRow.{StudyRow}
use Rattle.sync_sweep.specs.Study.{AreStudyRows}
use Rattle.sync_sweep.specs.StudyText.{study_text}
use Rattle.sync_top.specs.declared.status.Status.{Status}
use Rattle.sync_top.specs.declared.status.Status.TheVariants.{Done, BadEvents}
use Rattle.sync_top.specs.Reading.{OrRefused}
use Rattle.sync_top.specs.Forms.Sim.{event_refusal}

-- the table of the rows of all cases
abbrev pub IsStudyTable : Topology → Cases → ℕ → Status → List ℕ → Type 0
IsStudyTable plan cases until status text =
    (status ≡ Done)
    × ((rows : List StudyRow) × AreStudyRows plan cases.common until cases.cases rows × (text ≡ study_text plan cases.names rows))

-- the answer to the bytes of a file: the table of its cases, or the line on why they are refused
abbrev pub IsStudyReply : Topology → List ℕ → ℕ → Status → List ℕ → Type 0
IsStudyReply plan bytes until status text =
    OrRefused (λ cases. IsStudyTable plan cases until) BadEvents event_refusal (cases_of plan bytes) status text
