use Rattle.std.proofs.Common.{◌≡◌, ◌++◌, take}
use Rattle.sync_sweep.proofs.chunks.put_all.Given as goal

abbrev pub invariant-loop-one : goal.invariant-loop-one
invariant-loop-one l = l.worked ≡ l.fn.worked ++ take l.one-index l.more
