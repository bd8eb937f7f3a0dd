use Rattle.std.proofs.Common.{◌≡◌, ◌++◌, map}
use Rattle.std.specs.Prelude.{codes}
use Rattle.std.specs.List.{concat, range_with_len}
use Rattle.plan_texts.specs.Chains.{chains_row}
use Rattle.plan_texts.proofs.chains.chains_text.Given as goal

abbrev pub invariant-loop-element : goal.invariant-loop-element
invariant-loop-element l =
    l.text ≡ codes "element,links,since,clocks\n" ++ concat (map (chains_row l.plan l.chains) (range_with_len 0 l.element))
