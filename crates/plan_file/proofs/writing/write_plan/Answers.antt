use Rattle.std.proofs.Common.{subst, sym, ◌≤◌, length, codes}
use Rattle.plan_file.specs.IsPlanText.{IsPlanText}
use Rattle.plan_file.specs.Writing.{element_table, link_table, source_table}
use Rattle.plan_file.specs.Spelling.{fields_text, rows_text, head_fields, plan_text, plan_size}
use Rattle.plan_file.proofs.Puts.{whole_put}
use Rattle.plan_file.proofs.SpelledPlan.{plan_text-read, plan_text-short}
use Rattle.plan_file.proofs.writing.write_plan.Goals as goal

pub returns-clause-spelled : goal.returns-clause-spelled
unfolding plan_text
returns-clause-spelled c =
    let plan = c.args.plan.now in
    whole_put (fields_text (head_fields plan)) (rows_text (codes "element") element_table plan.elements) (rows_text (codes "link") (link_table plan) plan.links) (rows_text (codes "source") (source_table plan) plan.sources)
    c.put_head.new.text c.put_elements.new.text c.put_links.new.text c.put_sources.new.text (rw c.new-text.ensures at c.in_ok-put_head.ensures.put) c.in_ok-put_elements.ensures c.in_ok-put_links.ensures c.in_ok-put_sources.ensures

pub returns-clause-text : goal.returns-clause-text
returns-clause-text c = subst (IsPlanText c.args.plan.now) (sym (returns-clause-spelled c)) (plan_text-read c.args.plan.now c.put_head.ensures.well_formed)

pub returns-clause-short : goal.returns-clause-short
returns-clause-short c = subst (λ text. length text ≤ plan_size c.args.plan.now) (sym (returns-clause-spelled c)) (plan_text-short c.args.plan.now c.put_head.ensures.well_formed)
