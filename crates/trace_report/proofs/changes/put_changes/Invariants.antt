use Rattle.std.proofs.Common.{◌≡◌, ◌++◌, map, take}
use Rattle.std.specs.Prelude.{codes}
use Rattle.std.specs.List.{concat}
use Rattle.trace_report.specs.Words.{change_row}
use Rattle.trace_report.proofs.changes.put_changes.Given as goal

-- the rows of the changes so far
abbrev pub invariant-loop-change : goal.invariant-loop-change
invariant-loop-change l = l.text ≡ l.fn.text ++ codes "changes\n" ++ concat (map (change_row l.plan) (take l.change-index l.changes))
