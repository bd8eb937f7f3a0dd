use Rattle.std.proofs.Common.{◌<◌, ◌++◌, ℕ, [], ◌∷◌, length, take, arith, refl, ap, sym, ◌∙◌}
use Rattle.std.proofs.lemmas.List.{take_more}
use Rattle.sync_sweep.specs.private.Rows.{IsStudyRowOf}
use Rattle.sync_sweep.proofs.ChunkLemmas.{AllZip-next}
use Rattle.sync_sweep.proofs.studying.study_rows.Goals as goal

pub loop-one-preserved : goal.loop-one-preserved
loop-one-preserved c =
    let worked = c.args.worked.now in
    let i : ℕ = c.loop-one.one-index in
    let one = c.one-item.result in
    let within : i < length worked = omega (arith, c.loop-one-test.true) in
    AllZip-next IsStudyRowOf worked i one c.loop-one.rows (record { outcome = one.outcome; timing = one.timing; way = one.way }) c.push.new.self
    within c.loop-one.invariant (record { outcome = refl; timing = refl; way = refl }) (take_more worked i one within ∙ ap (λ x. take i worked ++ x ∷ []) (sym c.one-item.is)) c.in_ok-push.ensures.ok
