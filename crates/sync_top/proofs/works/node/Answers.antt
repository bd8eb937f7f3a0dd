use Rattle.std.proofs.Common.{subst}
use Rattle.std.specs.Prelude.{IfOk}
use Rattle.sync_top.specs.Forms.Node.{IsNodeReply}
use Rattle.sync_top.specs.private.Work.{ends_in}
use Rattle.sync_top.specs.Form.{node}
use Rattle.sync_top.specs.private.FormSeen.{named}
use Rattle.sync_top.specs.Answer.{outside_of}
use Rattle.sync_top.proofs.Endings.{worked, ended}
use Rattle.sync_top.proofs.works.node.Goals as goal

pub returns-in-Ok-clause-works : goal.returns-in-Ok-clause-works
returns-in-Ok-clause-works g c =
    let F = g.F.Folder in
    worked (node (named c.args.plan) c.args.element.now c.args.name.now c.args.until)
    (outside_of F.contents F.steady F.faults c.args.folder.now c.node_bytes.new.folder) (F.tries c.args.folder.now) (F.tries c.node_bytes.new.folder)
    (λ read. (read.0, read.1, read.2)) (c.in-Ok.plan, c.in-Ok.element, c.in-Ok.bytes) c.replayed.result c.replied.result
    c.in-Ok.ensures.read
    (subst (λ bytes. IfOk c.replayed.result (λ found. IsNodeReply c.in-Ok.plan c.in-Ok.element bytes c.args.until (ends_in found.finding) found.text))
    c.bytes.ensures c.replayed.ensures) c.replied.ensures

pub returns-in-Err-clause-works : goal.returns-in-Err-clause-works
returns-in-Err-clause-works g c =
    let F = g.F.Folder in
    ended (node (named c.args.plan) c.args.element.now c.args.name.now c.args.until)
    (outside_of F.contents F.steady F.faults c.args.folder.now c.node_bytes.new.folder) (F.tries c.args.folder.now) (F.tries c.node_bytes.new.folder)
    (λ read. (read.0, read.1, read.2)) c.in-Err.stop
    c.in-Err.ensures.read
