use Rattle.std.proofs.Common.{false, refl}
use Rattle.operator_cmds.proofs.Lockouts.{relocked}
use Rattle.operator_cmds.proofs.cmds.Cmds.apply.Goals as goal

pub returns-in-Unlock-clause-table : goal.returns-in-Unlock-clause-table
returns-in-Unlock-clause-table c =
    let place = rw (← c.self.view_is, c.in-Unlock.is) at c.requires.place in
    rw (← c.self.view_is, c.in-Unlock.is)
    (relocked c.self.inside.inputs c.in-Unlock.i c.self.inside.locked false _ _ _ _ place refl refl)
