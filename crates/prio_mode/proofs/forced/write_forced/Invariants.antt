use Rattle.std.proofs.Common.{◌≡◌, ◌++◌, drop}
use Rattle.std.specs.Prelude.{codes, map}
use Rattle.std.specs.List.{concat}
use Rattle.prio_mode.specs.ForcedText.{forced_row}
use Rattle.prio_mode.proofs.forced.write_forced.Given as goal

-- the text so far and the rows of the lines left are the whole text
abbrev pub invariant-loop-line : goal.invariant-loop-line
invariant-loop-line l =
    l.text ++ concat (map (forced_row l.plan) (map (λ line. line.0) (drop l.line-index l.lines)))
    ≡ codes "at,what,target,value\n" ++ concat (map (forced_row l.plan) (map (λ line. line.0) l.lines))
