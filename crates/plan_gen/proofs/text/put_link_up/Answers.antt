use Rattle.plan_gen.proofs.text.put_link_up.Goals as goal

pub returns : goal.returns
returns c = rw (c.bytes.ensures, c.bytes-2.ensures, c.in_ok-a.ensures, c.in_ok-b.ensures, c.in_ok-numbered.ensures) at c.put_link.ensures
