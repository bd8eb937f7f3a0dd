use Rattle.std.proofs.Common.{◌≡◌, ◌<◌, ◌++◌, [], ◌∷◌, ℕ, length, take, ap, sym, subst, ◌∙◌, arith}
use Rattle.std.specs.List.{AllZip, range_with_len}
use Rattle.std.proofs.lemmas.List.{take_more}
use Rattle.sync_text.proofs.Ranges.{range_more}
use Rattle.sync_sweep.specs.declared.row.SweepRow.{SweepRow}
use Rattle.sync_sweep.specs.private.Rows.{IsRowOf}
use Rattle.sync_sweep.proofs.ChunkLemmas.{AllZip-append, AllZip-next}
use Rattle.sync_sweep.proofs.row.rows_of.Goals as goal

pub loop-link-preserved : goal.loop-link-preserved
loop-link-preserved c =
    let worked = c.args.worked.now in
    let link : ℕ = c.loop-link.link in
    let within : link < length worked = omega (arith, c.loop-link-test.true) in
    let R : ℕ → SweepRow → Type 0 = λ link row. row.link ≡ link in
    record {
      rows = AllZip-next IsRowOf worked link c.index-worked-link.result c.loop-link.rows c.row_of.result c.push.new.self
          within c.loop-link.invariant.rows c.row_of.ensures.row (take_more worked link c.index-worked-link.result within ∙ ap (λ outcome. take link worked ++ outcome ∷ []) (sym c.index-worked-link.is)) c.in_ok-push.ensures.ok;
      links = subst (λ links. AllZip R links c.push.new.self) (sym (range_more link))
          (subst (AllZip R (range_with_len 0 link ++ link ∷ [])) (sym c.in_ok-push.ensures.ok)
          (AllZip-append R (range_with_len 0 link) (link ∷ []) c.loop-link.rows (c.row_of.result ∷ []) c.loop-link.invariant.links (c.row_of.ensures.link, tt)));
    }
