use Rattle.std.proofs.Common.{◌≡◌, ◌++◌, drop}
use Rattle.std.specs.Prelude.{codes, map}
use Rattle.std.specs.List.{concat}
use Rattle.sync_topo.specs.Lines.{line_name}
use Rattle.plan_texts.proofs.lines.lines_text.Given as goal

-- the text so far and the names of the lines left are the whole line
abbrev pub invariant-loop-line : goal.invariant-loop-line
invariant-loop-line l =
    l.text ++ concat (map (λ line. codes " " ++ line_name l.plan line) (map (λ line. line.0) (drop l.line-index l.lines)))
    ≡ l.word ++ concat (map (λ line. codes " " ++ line_name l.plan line) (map (λ line. line.0) l.lines))
