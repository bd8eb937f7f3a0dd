use Rattle.std.proofs.Common.{◌/◌}
use Rattle.std.proofs.lemmas.Result.{on_ok_weaker}
use Rattle.sync_ql.specs.Level.{name_of}
use Rattle.plan_file.proofs.Puts.{element_put}
use Rattle.plan_file.proofs.writing.put_element.Goals as goal

pub returns : goal.returns
returns c =
    let element = c.args.element.now in
    on_ok_weaker c.put_number-2.result
    (element_put element.floor element.holdoff (element.wtr / 60000) element.name (name_of element.own) c.args.text.now c.put.new.self c.put_floor.new.text c.put_number.new.text
    c.put_name.new.text c.put_name-2.new.text c.put_number-2.new.text c.in_ok-put.ensures.ok c.in_ok-put_floor.ensures c.in_ok-put_number.ensures
    (rw c.bytes.ensures at c.in_ok-put_name.ensures) (rw (c.as_bytes.ensures.value, c.name_of.ensures.name) at c.in_ok-put_name-2.ensures))
    c.put_number-2.ensures
