use Rattle.std.proofs.Common.{arith, rules, List, ap, ◌∙◌, length}
use Rattle.std.proofs.lemmas.Result.{err_from_is_err_and}
use Rattle.std.specs.Vec.Iter.{into_iter_items}
use Rattle.sync_topo.specs.declared.element.Element.{Element}
use Rattle.sync_topo.specs.Indexed.{topology}
use Rattle.sync_topo.specs.RowValues.{link_from}
use Rattle.sync_topo.specs.Rules.{link_rules}
use Rattle.sync_topo.specs.private.Steps.{link_rules_after}
use Rattle.sync_topo.proofs.RowRules.{link_rules-so_far}
use Rattle.sync_topo.proofs.RowLoops.{loop-kept, loop-refused, whole-more, made-more}
use Rattle.sync_topo.proofs.parts.PlanTables.add_links.Goals as goal

pub returns-in_err-link-clause-rules : goal.returns-in_err-link-clause-rules
returns-in_err-link-clause-rules c =
    let all_rules = link_rules_after c.args.self.now.option c.args.self.now.elements.items in let so_far = c.loop-row.invariant in
    let p = err_from_is_err_and c.from_residual.result c.from_residual.ensures.1 in
    rw (p.1, p.2) (loop-refused all_rules (link_rules (topology c.loop-row.self) c.in-Some.row) c.loop-row.yielded c.in-Some.row (into_iter_items c.next.new.self) _ _ _
    (link_rules-so_far (topology c.loop-row.self) c.args.self.now.option c.args.self.now.elements.items c.loop-row.yielded c.in-Some.row so_far.option so_far.elements so_far.links so_far.sources) c.in-Some.ensures.steps.0 so_far.so_far c.in_err-link.ensures.rules)

pub loop-row-preserved : goal.loop-row-preserved
loop-row-preserved c =
    let all_rules = link_rules_after c.args.self.now.option c.args.self.now.elements.items in let so_far = c.loop-row.invariant in let next = c.in-Some.ensures.steps.0 in
    record {
      can_next = search rules;
      is_finite = search rules;
      counted = omega (arith, so_far.counted, ap length next, c.in-Some.ensures.steps.1);
      whole = whole-more c.loop-row.yielded c.in-Some.row (into_iter_items c.next.new.self) _ _ next so_far.whole;
      indexed = c.in_ok-add_link.ensures.indexed;
      option = c.in_ok-add_link.ensures.option ∙ so_far.option;
      elements = c.in_ok-add_link.ensures.elements ∙ so_far.elements;
      links = made-more (link_from c.args.self.now.elements.items) c.loop-row.yielded c.in-Some.row _ _ _ so_far.links c.in_ok-add_link.ensures.links (c.in_ok-link.ensures.link ∙ ap (λ (es : List Element). link_from es c.in-Some.row) so_far.elements);
      sources = c.in_ok-add_link.ensures.sources;
      so_far = loop-kept all_rules (link_rules (topology c.loop-row.self) c.in-Some.row) c.loop-row.yielded c.in-Some.row (into_iter_items c.next.new.self) _ _
          (link_rules-so_far (topology c.loop-row.self) c.args.self.now.option c.args.self.now.elements.items c.loop-row.yielded c.in-Some.row so_far.option so_far.elements so_far.links so_far.sources) next so_far.so_far c.in_ok-link.ensures.rules;
    }
