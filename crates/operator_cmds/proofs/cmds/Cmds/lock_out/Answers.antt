use Rattle.std.proofs.Common.{true}
use Rattle.operator_cmds.proofs.Lockouts.{relocked}
use Rattle.operator_cmds.proofs.cmds.Cmds.lock_out.Goals as goal

pub returns : goal.returns
returns c =
    let place = rw (← c.self.view_is) at c.requires.place in
    rw (← c.self.view_is)
    (relocked c.self.inside.inputs c.args.i c.self.inside.locked true _ _ _ _ place c.without_forced-self-inside.ensures.forced c.without_forced-self-inside.ensures.manual)
