use Rattle.std.proofs.Common.{◌<◌, ◌++◌, ℕ, [], ◌∷◌, length, take, arith, ap, sym, ◌∙◌}
use Rattle.std.proofs.lemmas.List.{take_more}
use Rattle.sync_sweep.specs.private.Working.{IsCaseWorked}
use Rattle.sync_sweep.proofs.ChunkLemmas.{AllZip-next}
use Rattle.sync_sweep.proofs.chunks.worked_in.Goals as goal

pub loop-case-preserved : goal.loop-case-preserved
loop-case-preserved g c =
    let study = c.args.study.now in
    let cases = c.args.cases.now in
    let i : ℕ = c.loop-case.case-index in
    let case = c.case-item.result in
    let within : i < length cases = omega (arith, c.loop-case-test.true) in
    record {
      worked = AllZip-next (IsCaseWorked g.T.Timer.IsTold study.base.now.plan study.common.now study.until) cases i case c.loop-case.worked c.in_ok-one.one c.push.new.self
          within c.loop-case.invariant.worked c.in_ok-one.ensures.worked (take_more cases i case within ∙ ap (λ one. take i cases ++ one ∷ []) (sym c.case-item.is)) c.in_ok-push.ensures.ok;
      branch = c.in_ok-one.ensures.branch;
      timer = c.in_ok-one.ensures.timer;
    }
