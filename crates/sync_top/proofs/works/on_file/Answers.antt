use Rattle.std.proofs.Common.{subst}
use Rattle.std.specs.Prelude.{IfOk}
use Rattle.sync_top.specs.private.Work.{ends_in}
use Rattle.sync_top.specs.Form.{on_file}
use Rattle.sync_top.specs.private.FormSeen.{named}
use Rattle.sync_top.specs.Answer.{outside_of, FileAnswer}
use Rattle.sync_top.proofs.Endings.{worked, ended}
use Rattle.sync_top.proofs.works.on_file.Goals as goal

pub returns-in-Ok-clause-works : goal.returns-in-Ok-clause-works
returns-in-Ok-clause-works g c =
    let F = g.F.Folder in
    worked (on_file c.args.what (named c.args.plan) c.args.name.now)
    (outside_of F.contents F.steady F.faults c.args.folder.now c.plan_and_file.new.folder) (F.tries c.args.folder.now) (F.tries c.plan_and_file.new.folder)
    (λ read. (read.0, read.1)) (c.in-Ok.plan, c.in-Ok.bytes) c.file_found.result c.replied.result
    c.in-Ok.ensures.read
    (subst (λ bytes. IfOk c.file_found.result (λ found. FileAnswer c.args.what c.in-Ok.plan bytes (ends_in found.finding) found.text))
    c.bytes.ensures c.file_found.ensures) c.replied.ensures

pub returns-in-Err-clause-works : goal.returns-in-Err-clause-works
returns-in-Err-clause-works g c =
    let F = g.F.Folder in
    ended (on_file c.args.what (named c.args.plan) c.args.name.now)
    (outside_of F.contents F.steady F.faults c.args.folder.now c.plan_and_file.new.folder) (F.tries c.args.folder.now) (F.tries c.plan_and_file.new.folder)
    (λ read. (read.0, read.1)) c.in-Err.stop
    c.in-Err.ensures.read
