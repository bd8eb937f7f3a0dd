use Rattle.plan_gen.proofs.text.put_foot.Goals as goal

pub returns : goal.returns
returns c = rw (c.bytes.ensures, c.in_ok-element.ensures, c.in_ok-from_bytes.ensures, c.level_named.ensures) at c.put_source.ensures
