-- What is answered is of the plan.
use Rattle.std.specs.Prelude.{◌<◌, List, length}
use Rattle.std.specs.List.{All}
use Rattle.sync_topo.specs.declared.input.LineId.{LineId}
use Rattle.sync_topo.specs.Topology.{Topology}
use Rattle.sync_topo.specs.Lines.{line_count}
use Rattle.closed_walks.specs.declared.traced.End.{End}
use Rattle.closed_walks.specs.declared.traced.End.TheVariants.{Source, OwnClock, Loop}
use Rattle.closed_walks.specs.declared.traced.Ending.{Ending}

-- an end is a source or an element of the plan
abbrev pub IsEndOf : Topology → Ending → Type 0
IsEndOf plan ending = is ending.end
  where
    is : End → Type 0
    is (Source source) = source < length plan.sources
    is (OwnClock element) = element < length plan.elements
    is (Loop element) = element < length plan.elements

-- the lines of a walk are lines of the plan
abbrev pub AreLinesOf : Topology → List LineId → Type 0
AreLinesOf plan lines = All (λ line. line.0 < line_count plan) lines
