use Rattle.std.proofs.Common.{◌≡◌, refl, arith, length}
use Rattle.sync_topo.specs.declared.link.Link.{Link}
use Rattle.sync_topo.specs.Indexed.{topology}
use Rattle.sync_topo.proofs.WiringLaws.{wired-link}
use Rattle.sync_topo.proofs.WellFormedLemmas.{IsWellFormed-link, names-push}
use Rattle.sync_topo.proofs.parts.PlanTables.add_link.Goals as goal

pub returns-clause-indexed : goal.returns-clause-indexed
returns-clause-indexed c =
    let parts = c.args.self.now in let old = c.requires.indexed in
    let count : c.len.result ≡ length parts.links.items = omega (arith, c.len.ensures, parts.links.ok) in
    record {
      well_formed = rw c.in-Ok.ensures.items (IsWellFormed-link (topology parts) c.args.link old.well_formed c.requires.no_sources c.requires.room c.requires.may_link);
      element_names_kept = old.element_names_kept;
      link_names_kept = names-push (λ (l : Link). l.name) parts.links.items _ c.args.link _ _ _ old.link_names_kept c.in-Ok.ensures.items c.in_ok-add.ensures c.bytes.ensures;
      source_names_kept = old.source_names_kept;
      bundles_kept = rw c.in-Ok.ensures.items (c.in_ok-add-2.ensures parts.links.items c.args.link refl old.bundles_kept);
      wired = rw c.in-Ok.ensures.items
          (wired-link (topology parts) c.args.link parts.wiring _ _ c.requires.no_sources c.requires.may_link.joins.apart old.wired
          (rw count at c.in_ok-add_line.ensures) (rw count at c.in_ok-add_line-2.ensures));
    }
