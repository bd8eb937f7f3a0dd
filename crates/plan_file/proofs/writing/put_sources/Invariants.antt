use Rattle.std.proofs.Common.{◌≡◌, ◌++◌, take, codes}
use Rattle.plan_file.specs.Writing.{source_table}
use Rattle.plan_file.specs.Spelling.{rows_text}
use Rattle.plan_file.proofs.writing.put_sources.Given as goal

abbrev pub invariant-loop-source : goal.invariant-loop-source
invariant-loop-source l = l.text ≡ l.fn.text ++ rows_text (codes "source") (source_table l.fn.plan) (take l.source l.fn.plan.sources)
