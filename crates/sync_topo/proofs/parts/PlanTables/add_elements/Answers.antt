use Rattle.std.proofs.Common.{arith, rules, refl, ap, ◌∙◌, length}
use Rattle.std.proofs.lemmas.Result.{err_from_is_err_and}
use Rattle.std.specs.Vec.Iter.{into_iter_items}
use Rattle.sync_topo.specs.Indexed.{topology}
use Rattle.sync_topo.specs.RowValues.{element_from}
use Rattle.sync_topo.specs.Rules.{element_rules}
use Rattle.sync_topo.specs.private.Steps.{element_rules_after}
use Rattle.sync_topo.proofs.RowRules.{element_rules-so_far}
use Rattle.sync_topo.proofs.RowLoops.{loop-kept, loop-refused, whole-more, made-more}
use Rattle.sync_topo.proofs.parts.PlanTables.add_elements.Goals as goal

pub returns-in_err-element-clause-rules : goal.returns-in_err-element-clause-rules
returns-in_err-element-clause-rules c =
    let all_rules = element_rules_after c.args.self.now.option in let so_far = c.loop-row.invariant in
    let p = err_from_is_err_and c.from_residual.result c.from_residual.ensures.1 in
    rw (p.1, p.2) (loop-refused all_rules (element_rules (topology c.loop-row.self) c.in-Some.row) c.loop-row.yielded c.in-Some.row (into_iter_items c.next.new.self) _ _ _
    (element_rules-so_far (topology c.loop-row.self) c.args.self.now.option c.loop-row.yielded c.in-Some.row so_far.option so_far.elements) c.in-Some.ensures.steps.0 so_far.so_far c.in_err-element.ensures.rules)

pub loop-row-preserved : goal.loop-row-preserved
loop-row-preserved c =
    let all_rules = element_rules_after c.args.self.now.option in let so_far = c.loop-row.invariant in let next = c.in-Some.ensures.steps.0 in
    record {
      can_next = search rules;
      is_finite = search rules;
      counted = omega (arith, so_far.counted, ap length next, c.in-Some.ensures.steps.1);
      whole = whole-more c.loop-row.yielded c.in-Some.row (into_iter_items c.next.new.self) _ _ next so_far.whole;
      indexed = c.in_ok-add_element.ensures.indexed;
      option = c.in_ok-add_element.ensures.option ∙ so_far.option;
      elements = made-more (element_from c.args.self.now.option) c.loop-row.yielded c.in-Some.row _ _ _ so_far.elements c.in_ok-add_element.ensures.elements (c.in_ok-element.ensures.element ∙ (rw so_far.option refl));
      links = c.in_ok-add_element.ensures.links ∙ so_far.links;
      sources = c.in_ok-add_element.ensures.sources ∙ so_far.sources;
      so_far = loop-kept all_rules (element_rules (topology c.loop-row.self) c.in-Some.row) c.loop-row.yielded c.in-Some.row (into_iter_items c.next.new.self) _ _
          (element_rules-so_far (topology c.loop-row.self) c.args.self.now.option c.loop-row.yielded c.in-Some.row so_far.option so_far.elements) next so_far.so_far c.in_ok-element.ensures.rules;
    }
