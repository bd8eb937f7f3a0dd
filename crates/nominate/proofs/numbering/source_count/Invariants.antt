use Rattle.std.proofs.Common.{◌≡◌, ◌≤◌, take}
use Rattle.std.specs.List.{count_by}
use Rattle.nominate.specs.private.Searching.{is_source}
use Rattle.nominate.proofs.numbering.source_count.Given as goal

abbrev pub invariant-loop-input : goal.invariant-loop-input
invariant-loop-input l = record {
  counted : l.count ≡ count_by is_source (take l.input-index l.input-items);
  low : l.count ≤ l.input-index;
}
