use Rattle.std.proofs.Common.{◌≡◌, ◌++◌, take, codes}
use Rattle.plan_file.specs.Writing.{link_table}
use Rattle.plan_file.specs.Spelling.{rows_text}
use Rattle.plan_file.proofs.writing.put_links.Given as goal

abbrev pub invariant-loop-link : goal.invariant-loop-link
invariant-loop-link l = l.text ≡ l.fn.text ++ rows_text (codes "link") (link_table l.fn.plan) (take l.link l.fn.plan.links)
