use Rattle.std.proofs.Common.{◌≡◌, ◌+◌, ◌++◌, List, map}
use Rattle.std.specs.Prelude.{codes}
use Rattle.std.specs.List.{concat, range_with_len}
use Rattle.sync_topo.specs.declared.event.Event.{Event}
use Rattle.sync_net.specs.Standing.{StandsFor}
use Rattle.trace_report.specs.Report.{element_rows, conditions_at}
use Rattle.trace_report.proofs.inputs.put_inputs.Given as goal

-- the rows of the elements so far
abbrev pub invariant-loop-element : goal.invariant-loop-element
invariant-loop-element l = (all : List Event) → StandsFor l.net all (l.until + 1)
    → l.text ≡ l.fn.text ++ codes "inputs\n" ++ concat (map (element_rows l.net.plan (conditions_at l.net.plan all l.until)) (range_with_len 0 l.element))
