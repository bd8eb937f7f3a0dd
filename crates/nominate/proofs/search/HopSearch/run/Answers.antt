use Rattle.std.proofs.Common.{◌<◌, length, sym, ap, subst, ◌∙◌}
use Rattle.std.specs.List.{All}
use Rattle.sync_topo.specs.Outputs.{IsOutput}
use Rattle.nominate.proofs.CountLemmas.{count-within}
use Rattle.sync_topo.proofs.OutputLemmas.{held-within}
use Rattle.nominate.proofs.SearchLemmas.{AreKept-visited, led-by_outputs}
use Rattle.nominate.proofs.search.HopSearch.run.Goals as goal

pub visit-requires-clause-outputs : goal.visit-requires-clause-outputs
visit-requires-clause-outputs c =
    let taken = c.in-Some.ensures.taken in
    let inside : c.in-Some.element < length c.args.outputs.now = rw (c.requires.outputs.counted, ← taken.searching.counted) (count-within c.take.new.self.counts.items c.in-Some.element c.take.new.self.depth taken.of_depth) in
    subst (λ lines. All (IsOutput c.args.plan.now c.in-Some.element) lines)
    (held-within c.args.outputs.now c.in-Some.element c.index-outputs-element.result inside
    ∙ ap (λ own. own.items) (sym c.index-outputs-element.is) ∙ sym c.as_slice.ensures.value)
    (c.requires.outputs.only c.in-Some.element)

pub loop-element-preserved : goal.loop-element-preserved
loop-element-preserved c =
    let taken = c.in-Some.ensures.taken in
    let inside : c.in-Some.element < length c.args.outputs.now = rw (c.requires.outputs.counted, ← taken.searching.counted) (count-within c.take.new.self.counts.items c.in-Some.element c.take.new.self.depth taken.of_depth) in
    record {
      searching = c.in_ok-visit.ensures.more.searching;
      kept =
          AreKept-visited c.args.plan.now c.take.new.self c.visit.new.self c.in-Some.element (taken.kept c.loop-element.invariant.kept) taken.of_depth c.in_ok-visit.ensures.more
          (led-by_outputs c.args.plan.now c.args.outputs.now c.as_slice.result.now c.visit.new.self.counts.items c.in-Some.element c.take.new.self.depth c.requires.outputs
          (c.as_slice.ensures.value ∙ ap (λ own. own.items) c.index-outputs-element.is ∙ sym (held-within c.args.outputs.now c.in-Some.element c.index-outputs-element.result inside))
          c.in_ok-visit.ensures.close);
    }
