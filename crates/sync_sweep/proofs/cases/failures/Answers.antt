use Rattle.std.proofs.Common.{◌≡◌, ◌++◌, [], ◌∷◌, ℕ, length, ap, sym, subst, arith}
use Rattle.std.specs.List.{AllZip, range_with_len}
use Rattle.std.proofs.lemmas.List.{length_push}
use Rattle.sync_text.proofs.Ranges.{range_more}
use Rattle.sync_topo.specs.declared.event.Case.{Case}
use Rattle.sync_sweep.specs.Sweep.{failure}
use Rattle.sync_sweep.proofs.ChunkLemmas.{AllZip-append}
use Rattle.sync_sweep.proofs.cases.failures.Goals as goal

pub loop-link-preserved : goal.loop-link-preserved
loop-link-preserved c =
    let link : ℕ = c.loop-link.link in
    let R : ℕ → Case → Type 0 = λ link case. case.events ≡ failure c.args.at link in
    record {
      cases = subst (λ links. AllZip R links c.push.new.self) (sym (range_more link))
          (subst (AllZip R (range_with_len 0 link ++ link ∷ [])) (sym c.in_ok-push.ensures.ok)
          (AllZip-append R (range_with_len 0 link) (link ∷ []) c.loop-link.cases (c.in_ok-failure_of.field-0 ∷ []) c.loop-link.invariant.cases (c.in_ok-failure_of.ensures, tt)));
      count = omega (arith, ap length c.in_ok-push.ensures.ok, length_push c.loop-link.cases c.in_ok-failure_of.field-0, c.loop-link.invariant.count);
    }
