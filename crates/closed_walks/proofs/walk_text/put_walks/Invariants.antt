use Rattle.std.proofs.Common.{◌≡◌, ◌++◌, map, take}
use Rattle.std.specs.List.{concat}
use Rattle.sync_topo.specs.Lines.{numbers}
use Rattle.closed_walks.specs.WalkText.{walk_row}
use Rattle.closed_walks.proofs.walk_text.put_walks.Given as goal

-- the rows of the walks so far
abbrev pub invariant-loop-walk : goal.invariant-loop-walk
invariant-loop-walk l = l.text ≡ l.fn.text ++ concat (map (λ walk. walk_row l.plan (numbers walk)) (take l.walk-index l.walks))
