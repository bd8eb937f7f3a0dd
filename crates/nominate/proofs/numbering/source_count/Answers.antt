use Rattle.std.proofs.Common.{take_all, ap, ◌∙◌}
use Rattle.std.specs.List.{count_by}
use Rattle.sync_topo.specs.declared.input.InputId.{InputId}
use Rattle.nominate.specs.private.Searching.{is_source}
use Rattle.nominate.proofs.OwnLemmas.{count-own}
use Rattle.nominate.proofs.numbering.source_count.Goals as goal
use Rattle.std.proofs.Common.{List}

pub returns-clause-count : goal.returns-clause-count
returns-clause-count c =
    c.loop-input.invariant.counted
    ∙ ap (λ (inputs : List InputId). count_by is_source inputs) (take_all c.loop-input.input-index c.inputs-input-items.result.now c.loop-input-test.false)
    ∙ ap (λ (inputs : List InputId). count_by is_source inputs) c.inputs-input-items.ensures.inputs
    ∙ count-own c.args.plan.now c.args.element
