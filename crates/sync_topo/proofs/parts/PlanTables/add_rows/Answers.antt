use Rattle.std.proofs.Common.{map, ap, sym, ◌∙◌, List}
use Rattle.std.proofs.lemmas.Result.{err_from_is_err_and}
use Rattle.sync_ql.specs.declared.levels.NetOption.{NetOption}
use Rattle.sync_topo.specs.declared.element.Element.{Element}
use Rattle.sync_topo.specs.RowValues.{element_from, link_from}
use Rattle.sync_topo.proofs.RowRules.{element_rules-are, link_rules-are, source_rules-are, elements-told, links-told, sources-follow}
use Rattle.sync_topo.proofs.parts.PlanTables.add_rows.Goals as goal

pub returns-in_err-add_elements-clause-rules : goal.returns-in_err-add_elements-clause-rules
returns-in_err-add_elements-clause-rules c =
    let p = err_from_is_err_and c.from_residual.result c.from_residual.ensures.1 in
    rw (p.1, p.2) (elements-told c.args.rows _ _ c.requires.limits (element_rules-are c.args.rows _ c.requires.option) c.in_err-add_elements.ensures.rules)

pub returns-in_err-add_links-clause-rules : goal.returns-in_err-add_links-clause-rules
returns-in_err-add_links-clause-rules c =
    let p = err_from_is_err_and c.from_residual-in_err-add_links.result c.from_residual-in_err-add_links.ensures.1 in
    let rows = c.args.rows in let made = c.in_ok-add_elements.ensures in let option = c.requires.option in
    let elements = made.elements ∙ ap (λ (o : NetOption). map (element_from o) rows.elements) option in
    rw (p.1, p.2) (links-told rows _ _ _ c.requires.limits (element_rules-are rows _ option) made.rules
    (link_rules-are rows _ _ (made.option ∙ option) elements) c.in_err-add_links.ensures.rules)

pub returns-clause-rules : goal.returns-clause-rules
returns-clause-rules c =
    let rows = c.args.rows in let made = c.in_ok-add_elements.ensures in let linked = c.in_ok-add_links.ensures in let option = c.requires.option in
    let elements = made.elements ∙ ap (λ (o : NetOption). map (element_from o) rows.elements) option in
    sources-follow rows _ _ _ _ c.requires.limits (element_rules-are rows _ option) made.rules
    (link_rules-are rows _ _ (made.option ∙ option) elements) linked.rules
    (source_rules-are rows _ _ _ (linked.option ∙ made.option ∙ option) (linked.elements ∙ elements) (linked.links ∙ ap (λ (es : List Element). map (link_from es) rows.links) (sym linked.elements))) c.add_sources.ensures.rules
