use Rattle.std.proofs.Common.{◌≡◌, ◌++◌, drop}
use Rattle.std.specs.Prelude.{codes, map}
use Rattle.std.specs.List.{concat}
use Rattle.plan_texts.specs.Gaps.{gap_row}
use Rattle.plan_texts.proofs.gaps.gaps_text.Given as goal

-- the text so far and the rows of the gaps left are the whole text
abbrev pub invariant-loop-gap : goal.invariant-loop-gap
invariant-loop-gap l =
    l.text ++ concat (map (gap_row l.plan) (drop l.gap-index l.gaps))
    ≡ codes "kind,failure,elements,first\n" ++ concat (map (gap_row l.plan) l.gaps)
