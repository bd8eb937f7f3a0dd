use Rattle.std.proofs.lemmas.Result.{on_ok_weaker}
use Rattle.plan_file.proofs.Puts.{head_put}
use Rattle.plan_file.proofs.writing.put_head.Goals as goal

pub returns-clause-put : goal.returns-clause-put
returns-clause-put c =
    on_ok_weaker c.put_version.result
    (head_put c.args.plan.now c.elements.result c.links.result c.sources.result c.args.text.now c.put_if_none.new.text c.put_if_none-2.new.text c.put_option.new.text c.put_if_none-3.new.text
    c.put_version.new.text c.elements.ensures.count c.links.ensures.count c.sources.ensures.count c.in_ok-put_if_none.ensures c.in_ok-put_if_none-2.ensures
    (rw c.option.ensures.option at c.in_ok-put_option.ensures) c.in_ok-put_if_none-3.ensures)
    (rw c.names_bundle.ensures at c.put_version.ensures)
