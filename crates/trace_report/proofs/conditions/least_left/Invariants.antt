use Rattle.std.proofs.Common.{List}
use Rattle.sync_ql.specs.Moment.{Moment}
use Rattle.sync_element.specs.StandsFor.{StandsFor}
use Rattle.trace_report.specs.private.Least.{IsLeastBelow}
use Rattle.trace_report.proofs.conditions.least_left.Given as goal

abbrev pub invariant-loop-place : goal.invariant-loop-place
invariant-loop-place l = (past : List Moment) → StandsFor l.element past → IsLeastBelow l.element.settings past l.place l.least
