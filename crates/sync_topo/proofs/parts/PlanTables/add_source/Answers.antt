use Rattle.std.proofs.Common.{◌≡◌, arith, length}
use Rattle.sync_topo.specs.declared.source.Source.{Source}
use Rattle.sync_topo.specs.Indexed.{topology}
use Rattle.sync_topo.proofs.WiringLaws.{wired-source}
use Rattle.sync_topo.proofs.WellFormedLemmas.{IsWellFormed-source, names-push}
use Rattle.sync_topo.proofs.parts.PlanTables.add_source.Goals as goal

pub returns-clause-indexed : goal.returns-clause-indexed
returns-clause-indexed c =
    let parts = c.args.self.now in let old = c.requires.indexed in
    let count : c.len-number.result ≡ length parts.sources.items = omega (arith, c.len-number.ensures, parts.sources.ok) in
    record {
      well_formed = rw c.in-Ok.ensures.items (IsWellFormed-source (topology parts) c.args.source old.well_formed c.requires.room c.requires.may_feed);
      element_names_kept = old.element_names_kept;
      link_names_kept = old.link_names_kept;
      source_names_kept = names-push (λ (s : Source). s.name) parts.sources.items _ c.args.source _ _ _ old.source_names_kept c.in-Ok.ensures.items c.in_ok-add.ensures c.bytes.ensures;
      bundles_kept = old.bundles_kept;
      wired = rw c.in-Ok.ensures.items (wired-source (topology parts) c.args.source parts.wiring _ old.wired (rw count at c.in_ok-add_source.ensures));
    }
