use Rattle.std.proofs.lemmas.Result.{on_ok_weaker}
use Rattle.plan_file.proofs.Puts.{link_put}
use Rattle.plan_file.proofs.writing.put_link.Goals as goal

pub returns : goal.returns
returns c =
    let link = c.args.link.now in
    on_ok_weaker c.put_number-4.result
    (link_put link.bundle link.delay_a link.delay_b link.priority_a link.priority_b c.args.a.now c.args.b.now link.name c.args.text.now
    c.put.new.self c.put_name.new.text c.put_name-2.new.text c.put_bundle.new.text c.put_number.new.text c.put_number-2.new.text c.put_name-3.new.text c.put_number-3.new.text c.put_number-4.new.text
    c.in_ok-put.ensures.ok c.in_ok-put_name.ensures c.in_ok-put_name-2.ensures c.in_ok-put_bundle.ensures c.in_ok-put_number.ensures
    c.in_ok-put_number-2.ensures (rw c.bytes.ensures at c.in_ok-put_name-3.ensures) (rw c.from.ensures at c.in_ok-put_number-3.ensures))
    (rw c.from-2.ensures at c.put_number-4.ensures)
