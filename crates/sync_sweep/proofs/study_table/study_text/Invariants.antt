use Rattle.std.proofs.Common.{◌≡◌, ◌++◌, take}
use Rattle.sync_sweep.specs.StudyText.{study_head, cases_text}
use Rattle.sync_sweep.proofs.study_table.study_text.Given as goal

-- the head, and the rows behind
abbrev pub invariant-loop-place : goal.invariant-loop-place
invariant-loop-place l = l.text ≡ study_head ++ cases_text l.plan (take l.place l.names) (take l.place l.rows)
