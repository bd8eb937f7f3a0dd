use Rattle.std.proofs.Common.{◌≡◌, ◌+◌, ◌++◌, List, map, take}
use Rattle.std.specs.List.{concat}
use Rattle.sync_topo.specs.declared.event.Event.{Event}
use Rattle.net_rules.specs.Signals.{signals_by}
use Rattle.net_rules.specs.History.{out_at}
use Rattle.sync_net.specs.Standing.{ElementStands}
use Rattle.trace_report.specs.Words.{input_row}
use Rattle.trace_report.specs.Report.{conditions_at}
use Rattle.trace_report.proofs.inputs.put_element.Given as goal

-- the rows of the inputs so far
abbrev pub invariant-loop-place : goal.invariant-loop-place
invariant-loop-place l = (all : List Event)
    → ElementStands l.plan (signals_by l.plan all) (out_at l.plan (signals_by l.plan all)) l.number (l.until + 1) l.element
    → l.text ≡ l.initial.text ++ concat (map (λ input. input_row l.plan l.number input (conditions_at l.plan all l.until input)) (take l.place l.inputs))
