use Rattle.std.proofs.Common.{◌≡◌, ◌+◌, ◌++◌, List, map}
use Rattle.std.specs.List.{concat, range_with_len}
use Rattle.sync_topo.specs.declared.event.Event.{Event}
use Rattle.net_rules.specs.Signals.{signals_by}
use Rattle.net_rules.specs.History.{out_at}
use Rattle.sync_net.specs.Standing.{ElementStands}
use Rattle.inspection.specs.Inspection.{row_in}
use Rattle.inspection.proofs.inputs.put_element.Given as goal

-- the rows of the inputs so far
abbrev pub invariant-loop-place : goal.invariant-loop-place
invariant-loop-place l = (all : List Event)
    → ElementStands l.plan (signals_by l.plan all) (out_at l.plan (signals_by l.plan all)) l.number (l.until + 1) l.element
    → l.text ≡ l.initial.text ++ concat (map (row_in l.plan (signals_by l.plan all) (out_at l.plan (signals_by l.plan all)) l.until l.number) (range_with_len 0 l.place))
