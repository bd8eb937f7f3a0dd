use Rattle.std.proofs.Common.{◌≡◌, length, refl, subst, arith}
use Rattle.nominate.proofs.SearchLemmas.{IsStart, IsStart-more, IsSearching-start}
use Rattle.nominate.proofs.search.HopSearch.new.Goals as goal

pub loop-element-preserved : goal.loop-element-preserved
loop-element-preserved c =
    rw (c.in-Ok.ensures.items, c.count_of_root.ensures, c.in_ok-push_if.ensures)
    (IsStart-more c.args.plan.now c.loop-element.element c.loop-element.counts.items c.loop-element.current.items c.is_root-root.result c.is_root-root.ensures c.loop-element.invariant)

pub returns-clause-searching : goal.returns-clause-searching
returns-clause-searching c =
    let all : c.loop-element.element ≡ length c.args.plan.now.elements = omega (arith, c.elements-element-end.ensures.count, c.loop-element-test.false, c.loop-element.auto.element-end) in
    IsSearching-start c.args.plan.now _ c.elements-element-end.ensures.well_formed
    (subst (λ n. IsStart c.args.plan.now n c.loop-element.counts.items c.loop-element.current.items) all c.loop-element.invariant) c.new.ensures.items refl
