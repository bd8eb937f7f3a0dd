use Rattle.std.proofs.Common.{◌≡◌, length}
use Rattle.element_tests.proofs.operator_cmds_tests.after.Given as goal

abbrev pub invariant-loop-command : goal.invariant-loop-command
invariant-loop-command g l = length l.cmds.locked ≡ l.inputs
