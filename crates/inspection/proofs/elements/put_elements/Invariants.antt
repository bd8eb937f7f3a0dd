use Rattle.std.proofs.Common.{◌≡◌, ◌+◌, ◌++◌, ℕ, List, map}
use Rattle.std.specs.Prelude.{codes}
use Rattle.std.specs.List.{concat, range_with_len}
use Rattle.sync_topo.specs.declared.event.Event.{Event}
use Rattle.net_rules.specs.Signals.{signals_by}
use Rattle.net_rules.specs.History.{out_at}
use Rattle.sync_net.specs.Standing.{StandsFor}
use Rattle.inspection.specs.Inspection.{element_in, element_row}
use Rattle.inspection.proofs.elements.put_elements.Given as goal

-- the rows of the elements so far
abbrev pub invariant-loop-element : goal.invariant-loop-element
invariant-loop-element l = (all : List Event) (until : ℕ) → StandsFor l.net all (until + 1)
    → l.text ≡ l.fn.text ++ codes "elements\n"
    ++ concat (map (λ element. element_row l.net.plan element (element_in l.net.plan (signals_by l.net.plan all) (out_at l.net.plan (signals_by l.net.plan all)) until element)) (range_with_len 0 l.element))
