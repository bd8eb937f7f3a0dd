use Rattle.std.proofs.Common.{◌<◌, length, sym, ◌∙◌}
use Rattle.std.proofs.lemmas.Bool.{false≢true}
use Rattle.nominate.proofs.MarkLemmas.{unmarked-lacks}
use Rattle.nominate.proofs.facts.all_marked.Goals as goal

pub returns-then-is_above : goal.returns-then-is_above
returns-then-is_above c =
    let inside : c.loop-element.element < length c.args.plan.now.elements = rw (← c.elements-element-end.ensures.count) c.loop-element-test.true in (
      λ is. absurd (false≢true is),
      λ have. absurd (unmarked-lacks c.args.plan.now c.args.hops.now c.args.marks.now c.loop-element.element inside c.requires.marks c.if-not-marked.true (rw c.of.ensures.count at (sym c.is_above.ensures ∙ c.if-is_above.true)) have),
    )
