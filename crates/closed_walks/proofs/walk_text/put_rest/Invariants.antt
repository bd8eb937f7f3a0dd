use Rattle.std.proofs.Common.{◌≡◌, ◌++◌, map, take}
use Rattle.std.specs.Prelude.{codes}
use Rattle.std.specs.List.{concat}
use Rattle.sync_topo.specs.Lines.{line_name}
use Rattle.closed_walks.proofs.walk_text.put_rest.Given as goal

-- the lines so far
abbrev pub invariant-loop-line : goal.invariant-loop-line
invariant-loop-line l = l.text ≡ l.fn.text ++ concat (map (λ line. codes " " ++ line_name l.plan line.0) (take l.line-index l.rest))
