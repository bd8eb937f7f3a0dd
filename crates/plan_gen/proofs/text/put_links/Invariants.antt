use Rattle.std.proofs.Common.{◌≡◌, ◌++◌, flat_map, codes}
use Rattle.std.specs.List.{range_with_len}
use Rattle.plan_file.specs.Spelling.{rows_text}
use Rattle.plan_gen.specs.Ladder.{links_up_to}
use Rattle.plan_gen.specs.private.LadderText.{table_up}
use Rattle.plan_gen.proofs.text.put_links.Given as goal

abbrev pub invariant-loop-element : goal.invariant-loop-element
invariant-loop-element l = l.text ≡ l.fn.text ++ rows_text (codes "link") table_up (flat_map links_up_to (range_with_len 0 l.element))
