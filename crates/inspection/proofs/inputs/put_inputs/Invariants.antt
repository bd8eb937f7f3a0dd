use Rattle.std.proofs.Common.{◌≡◌, ◌+◌, ◌++◌, List, map}
use Rattle.std.specs.Prelude.{codes}
use Rattle.std.specs.List.{concat, range_with_len}
use Rattle.sync_topo.specs.declared.event.Event.{Event}
use Rattle.net_rules.specs.Signals.{signals_by}
use Rattle.net_rules.specs.History.{out_at}
use Rattle.sync_net.specs.Standing.{StandsFor}
use Rattle.inspection.specs.Inspection.{rows_in}
use Rattle.inspection.proofs.inputs.put_inputs.Given as goal

-- the rows of the elements so far
abbrev pub invariant-loop-element : goal.invariant-loop-element
invariant-loop-element l = (all : List Event) → StandsFor l.net all (l.until + 1)
    → l.text ≡ l.fn.text ++ codes "inputs\n" ++ concat (map (rows_in l.net.plan (signals_by l.net.plan all) (out_at l.net.plan (signals_by l.net.plan all)) l.until) (range_with_len 0 l.element))
