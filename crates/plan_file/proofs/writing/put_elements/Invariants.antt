use Rattle.std.proofs.Common.{◌≡◌, ◌++◌, take, codes}
use Rattle.plan_file.specs.Writing.{element_table}
use Rattle.plan_file.specs.Spelling.{rows_text}
use Rattle.plan_file.proofs.writing.put_elements.Given as goal

abbrev pub invariant-loop-element : goal.invariant-loop-element
invariant-loop-element l = l.text ≡ l.fn.text ++ rows_text (codes "element") element_table (take l.element l.fn.plan.elements)
