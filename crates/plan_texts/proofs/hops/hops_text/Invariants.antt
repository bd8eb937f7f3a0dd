use Rattle.std.proofs.Common.{◌≡◌, ◌++◌, map}
use Rattle.std.specs.Prelude.{codes}
use Rattle.std.specs.List.{concat, range_with_len}
use Rattle.plan_texts.specs.Hops.{hops_row}
use Rattle.plan_texts.proofs.hops.hops_text.Given as goal

abbrev pub invariant-loop-element : goal.invariant-loop-element
invariant-loop-element l = l.text ≡ codes "element,hops,from\n" ++ concat (map (hops_row l.plan l.hops) (range_with_len 0 l.element))
