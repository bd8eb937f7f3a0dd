use Rattle.std.proofs.lemmas.Result.{on_ok_weaker}
use Rattle.plan_gen.proofs.LadderText.{one_up, two_up}
use Rattle.plan_gen.proofs.text.put_links_up_to.Goals as goal

pub returns-then-element-eq1 : goal.returns-then-element-eq1
returns-then-element-eq1 c = one_up c.args.element c.args.text.now c.put_link_up.new.text c.if-element-eq1.true c.in_ok-put_link_up.ensures

pub returns : goal.returns
returns c =
    on_ok_weaker c.put_link_up-2.result
    (two_up c.args.element c.args.text.now c.put_link_up.new.text c.put_link_up-2.new.text c.if-element-eq0.false c.if-element-eq1.false c.in_ok-put_link_up.ensures)
    c.put_link_up-2.ensures
