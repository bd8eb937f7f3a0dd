use Rattle.std.proofs.Common.{◌≡◌, ◌++◌, drop}
use Rattle.std.specs.List.{filter_map}
use Rattle.node_replay.specs.private.Telling.{row_word}
use Rattle.node_replay.proofs.told.tell_rows.Given as goal

-- what is left of the rows is still to be told
abbrev pub invariant-loop-row : goal.invariant-loop-row
invariant-loop-row l = l.told ++ filter_map (row_word l.ids l.element) (drop l.row-index l.here) ≡ l.fn.told ++ filter_map (row_word l.ids l.element) l.here
