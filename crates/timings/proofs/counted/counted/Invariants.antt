use Rattle.std.proofs.Common.{◌≡◌, ◌≤◌, List, map, take}
use Rattle.std.specs.Prelude.{Some}
use Rattle.closed_walks.specs.declared.traced.Ending.{Ending}
use Rattle.timings.specs.Timing.{IsCounted}
use Rattle.timings.proofs.counted.counted.Given as goal

-- the traces behind are counted
abbrev pub invariant-loop-element : goal.invariant-loop-element
invariant-loop-element l = record {
  counted : (endings : List Ending) → map Some endings ≡ l.known → IsCounted (take l.element endings) l.timing;
  few : l.timing.lost ≤ l.element;
}
