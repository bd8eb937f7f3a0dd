use Rattle.std.proofs.Common.{ap, ◌∙◌}
use Rattle.std.specs.Prelude.{slice_index}
use Rattle.sync_topo.specs.RowValues.{plan_from}
use Rattle.nominate.proofs.GivenLaws.{said-with, refused-with}
use Rattle.nominate.proofs.renumbered.with_priorities.Goals as goal

pub returns-in-Ok-clause-plan : goal.returns-in-Ok-clause-plan
returns-in-Ok-clause-plan c =
    c.in-Ok.ensures.plan ∙ ap plan_from c.in_ok-rows.ensures
    ∙ said-with c.args.plan.now (λ line. slice_index c.args.priorities.now line) c.lines-lines.ensures.well_formed

pub returns-in-Err-Refused-clause-none : goal.returns-in-Err-Refused-clause-none
returns-in-Err-Refused-clause-none c = λ none.
    refused-with c.args.plan.now (λ line. slice_index c.args.priorities.now line) c.in_ok-rows.rows _ c.in_ok-rows.ensures
    c.in-Err-Refused.ensures.again (rw c.in-Err-Refused.field-0-is at c.in-Err-Refused.ensures.exact)
