use Rattle.operator_cmds.proofs.Lockouts.{none_locked}
use Rattle.operator_cmds.proofs.cmds.Cmds.new.Goals as goal

pub returns-clause-empty : goal.returns-clause-empty
returns-clause-empty c = rw c.none_locked_out.ensures (none_locked c.args.inputs c.requires.few)
