use Rattle.std.proofs.Common.{◌<◌, length}
use Rattle.sync_topo.specs.Lines.{sender_of}
use Rattle.sync_topo.proofs.OutputLemmas.{AreOutputs-push}
use Rattle.sync_topo.proofs.outputs.add_output.Goals as goal

pub returns : goal.returns
returns c =
    let within : sender_of c.args.plan.now c.args.line.0 < length c.args.outputs.now.items = rw (← c.from-sender.ensures.sender, c.requires.before.counted) c.from-sender.ensures.within in
    rw c.from-sender.ensures.sender
    (AreOutputs-push c.args.plan.now c.args.outputs.now.items c.args.line c.index_mut.result.now c.push.new.self c.requires.within within
    (rw (← c.from-sender.ensures.sender) c.index_mut.ensures.value) c.in-Ok.ensures.items c.requires.before)
