use Rattle.std.proofs.Common.{Ok, Err, subst}
use Rattle.std.specs.Prelude.{IfOk}
use Rattle.sync_top.specs.private.Work.{ends_in}
use Rattle.sync_top.specs.Form.{on_frames}
use Rattle.sync_top.specs.Answer.{outside_of, FramesAnswer}
use Rattle.sync_topo.specs.declared.sizes.Size.TheVariants.{Standard}
use Rattle.sync_top.specs.Reading.{file}
use Rattle.sync_top.proofs.Endings.{worked, ended, one-read}
use Rattle.sync_top.proofs.works.on_frames.Goals as goal

pub returns-in-Ok-clause-works : goal.returns-in-Ok-clause-works
returns-in-Ok-clause-works g c =
    let F = g.F.Folder in
    worked (on_frames c.args.what c.args.option c.args.name.now)
    (outside_of F.contents F.steady F.faults c.args.folder.now c.file.new.folder) (F.tries c.args.folder.now) (F.tries c.file.new.folder)
    (λ bytes. bytes) c.in-Ok.bytes c.frames_found.result c.replied.result
    (one-read (λ bytes. bytes) (outside_of F.contents F.steady F.faults c.args.folder.now c.file.new.folder) (F.tries c.args.folder.now) (F.tries c.file.new.folder) (Ok c.in-Ok.bytes) (file Standard c.args.name.now) c.in-Ok.ensures.gets)
    (subst (λ bytes. IfOk c.frames_found.result (λ found. FramesAnswer c.args.what c.args.option bytes (ends_in found.finding) found.text))
    c.bytes.ensures c.frames_found.ensures) c.replied.ensures

pub returns-in-Err-clause-works : goal.returns-in-Err-clause-works
returns-in-Err-clause-works g c =
    let F = g.F.Folder in
    ended (on_frames c.args.what c.args.option c.args.name.now)
    (outside_of F.contents F.steady F.faults c.args.folder.now c.file.new.folder) (F.tries c.args.folder.now) (F.tries c.file.new.folder)
    (λ bytes. bytes) c.in-Err.stop
    (one-read (λ bytes. bytes) (outside_of F.contents F.steady F.faults c.args.folder.now c.file.new.folder) (F.tries c.args.folder.now) (F.tries c.file.new.folder) (Err c.in-Err.stop) (file Standard c.args.name.now) c.in-Err.ensures.gets)
