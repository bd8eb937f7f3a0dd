use Rattle.std.proofs.Common.{◌≡◌, ◌++◌, map}
use Rattle.std.specs.Prelude.{codes}
use Rattle.std.specs.List.{concat, range_with_len}
use Rattle.trace_report.specs.LastParts.{trace_row_of}
use Rattle.trace_report.proofs.last_parts.put_traces.Given as goal

-- the rows of the elements so far
abbrev pub invariant-loop-element : goal.invariant-loop-element
invariant-loop-element l = l.text ≡ l.fn.text ++ codes "traces\n" ++ concat (map (trace_row_of l.plan l.endings) (range_with_len 0 l.element))
