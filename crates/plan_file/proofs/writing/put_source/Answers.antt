use Rattle.std.proofs.lemmas.Result.{on_ok_weaker}
use Rattle.sync_ql.specs.Level.{name_of}
use Rattle.plan_file.proofs.Puts.{source_put}
use Rattle.plan_file.proofs.writing.put_source.Goals as goal

pub returns : goal.returns
returns c =
    let source = c.args.source.now in
    on_ok_weaker c.put_number.result
    (source_put source.priority c.args.at.now (name_of source.level) source.name c.args.text.now c.put.new.self c.put_name.new.text c.put_name-2.new.text
    c.put_name-3.new.text c.put_number.new.text c.in_ok-put.ensures.ok c.in_ok-put_name.ensures
    (rw (c.as_bytes.ensures.value, c.name_of.ensures.name) at c.in_ok-put_name-2.ensures) (rw c.bytes.ensures at c.in_ok-put_name-3.ensures))
    (rw c.from.ensures at c.put_number.ensures)
