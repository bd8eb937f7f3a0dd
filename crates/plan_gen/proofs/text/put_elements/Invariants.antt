use Rattle.std.proofs.Common.{◌≡◌, ◌++◌, map, codes}
use Rattle.std.specs.List.{range_with_len}
use Rattle.plan_file.specs.Writing.{element_table}
use Rattle.plan_file.specs.Spelling.{rows_text}
use Rattle.plan_gen.specs.Ladder.{ladder_element}
use Rattle.plan_gen.proofs.text.put_elements.Given as goal

abbrev pub invariant-loop-element : goal.invariant-loop-element
invariant-loop-element l = l.text ≡ l.fn.text ++ rows_text (codes "element") element_table (map ladder_element (range_with_len 0 l.element))
