use Rattle.sync_topo.specs.Outputs.{AreOutputs}
use Rattle.sync_topo.proofs.outputs.all_lines_out.Given as goal

abbrev pub invariant-loop-number : goal.invariant-loop-number
invariant-loop-number l = AreOutputs l.plan l.number l.outputs.items
