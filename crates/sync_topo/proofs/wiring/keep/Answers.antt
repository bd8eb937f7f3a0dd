use Rattle.std.proofs.Common.{arith}
use Rattle.sync_topo.proofs.HeldLemmas.{held-take}
use Rattle.sync_topo.proofs.wiring.keep.Goals as goal

pub returns-clause-held : goal.returns-clause-held
returns-clause-held g c = λ e.
    held-take c.args.kept.now.items c.index_mut.result.now c.push.new.items c.args.element c.args.priority c.args.item e
    c.requires (omega arith) c.index_mut.ensures.value c.in_ok-push.ensures
