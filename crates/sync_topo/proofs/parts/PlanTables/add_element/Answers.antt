use Rattle.sync_topo.specs.declared.element.Element.{Element}
use Rattle.sync_topo.specs.Indexed.{topology}
use Rattle.sync_topo.proofs.WiringLaws.{wired-element}
use Rattle.sync_topo.proofs.WellFormedLemmas.{IsWellFormed-element, names-push}
use Rattle.sync_topo.proofs.parts.PlanTables.add_element.Goals as goal

pub returns-clause-indexed : goal.returns-clause-indexed
returns-clause-indexed c =
    let parts = c.args.self.now in let old = c.requires.indexed in
    record {
      well_formed = rw c.in-Ok.ensures.items (IsWellFormed-element (topology parts) c.args.element old.well_formed c.requires.room c.requires.may_join);
      element_names_kept = names-push (λ (e : Element). e.name) parts.elements.items _ c.args.element _ _ _ old.element_names_kept c.in-Ok.ensures.items c.in_ok-add.ensures c.bytes.ensures;
      link_names_kept = old.link_names_kept;
      source_names_kept = old.source_names_kept;
      bundles_kept = old.bundles_kept;
      wired = rw c.in-Ok.ensures.items (wired-element (topology parts) c.args.element parts.wiring _ old.wired c.in_ok-add_element.ensures);
    }
