use Rattle.std.proofs.Common.{◌-◌, length}
use Rattle.sync_edge.proofs.SoFar.{WritesSoFar}
use Rattle.sync_edge.proofs.transfers.write_all.Given as goal

abbrev pub invariant-loop-done : goal.invariant-loop-done
invariant-loop-done g l =
    let K = g.K.Sink in
    WritesSoFar K.written K.faults l.fn.sink l.sink l.bytes l.done

abbrev pub decreases-loop-done : goal.decreases-loop-done
decreases-loop-done g l = length l.bytes - l.done
