use Rattle.std.proofs.Common.{false, ◌∙◌, ap, length, replicate}
use Rattle.closed_walks.specs.Taking.{taken_in_list}
use Rattle.timings.proofs.EndsLemmas.{none-noted}
use Rattle.timings.proofs.ends.timing_along.Goals as goal

pub timing_in-requires-clause-noted : goal.timing_in-requires-clause-noted
timing_in-requires-clause-noted c =
    none-noted c.args.plan.now (taken_in_list c.args.taken.now) c.as_mut_slice.result.now c.as_mut_slice-2.result.now c.as_mut_slice-3.result.now
    (c.as_mut_slice.ensures.value ∙ c.in_ok-forget.ensures.known ∙ ap (λ n. replicate n false) c.elements.ensures.count)
    (ap length c.as_mut_slice-2.ensures.value ∙ c.in_ok-forget.ensures.lines ∙ c.elements.ensures.count)
    (ap length c.as_mut_slice-3.ensures.value ∙ c.in_ok-forget.ensures.lost ∙ c.elements.ensures.count)
