use Rattle.std.proofs.Common.{Ok, Err}
use Rattle.sync_top.specs.Form.{on_plan}
use Rattle.sync_top.specs.private.FormSeen.{named}
use Rattle.sync_top.specs.Answer.{outside_of}
use Rattle.sync_top.specs.Reading.{plan_in}
use Rattle.sync_top.proofs.Endings.{worked, ended, one-read}
use Rattle.sync_top.proofs.works.on_plan.Goals as goal

pub returns-in-Ok-clause-works : goal.returns-in-Ok-clause-works
returns-in-Ok-clause-works g c =
    let F = g.F.Folder in
    worked (on_plan c.args.what (named c.args.plan))
    (outside_of F.contents F.steady F.faults c.args.folder.now c.plan_in.new.folder) (F.tries c.args.folder.now) (F.tries c.plan_in.new.folder)
    (λ plan. plan) c.in-Ok.plan c.plan_found.result c.replied.result
    (one-read (λ plan. plan) (outside_of F.contents F.steady F.faults c.args.folder.now c.plan_in.new.folder) (F.tries c.args.folder.now) (F.tries c.plan_in.new.folder) (Ok c.in-Ok.plan) (plan_in (named c.args.plan)) c.in-Ok.ensures.gets)
    c.plan_found.ensures c.replied.ensures

pub returns-in-Err-clause-works : goal.returns-in-Err-clause-works
returns-in-Err-clause-works g c =
    let F = g.F.Folder in
    ended (on_plan c.args.what (named c.args.plan))
    (outside_of F.contents F.steady F.faults c.args.folder.now c.plan_in.new.folder) (F.tries c.args.folder.now) (F.tries c.plan_in.new.folder)
    (λ plan. plan) c.in-Err.stop
    (one-read (λ plan. plan) (outside_of F.contents F.steady F.faults c.args.folder.now c.plan_in.new.folder) (F.tries c.args.folder.now) (F.tries c.plan_in.new.folder) (Err c.in-Err.stop) (plan_in (named c.args.plan)) c.in-Err.ensures.gets)
