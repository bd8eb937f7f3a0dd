use Rattle.std.proofs.Common.{ℕ, ◌<◌, length, arith}
use Rattle.sync_sweep.specs.StudyText.{study_head}
use Rattle.sync_sweep.proofs.StudyTextLemmas.{case-put}
use Rattle.sync_sweep.proofs.study_table.study_text.Goals as goal

pub loop-place-preserved : goal.loop-place-preserved
loop-place-preserved c =
    let place : ℕ = c.loop-place.place in
    let within : place < length c.args.rows.now = omega (arith, c.loop-place-test.true) in
    case-put c.args.plan.now c.args.names.now c.args.rows.now place c.index-names-place.result c.index-rows-place.result study_head c.loop-place.text c.put_case.new.text
    (omega (arith, within, c.requires.names)) within c.loop-place.invariant c.index-names-place.is c.index-rows-place.is c.in_ok-put_case.ensures.put
