use Rattle.std.proofs.Common.{[], sym, subst, ◌∙◌}
use Rattle.closed_walks.specs.Following.{AreMet}
use Rattle.closed_walks.proofs.FollowLaws.{none-met}
use Rattle.settle_trace.proofs.tracing.trace_in.Goals as goal

pub returns-clause-exact : goal.returns-clause-exact
returns-clause-exact c =
    c.in_ok-way.ensures.trace []
    (subst (λ met. AreMet met []) (sym (c.as_mut_slice.ensures.value ∙ c.in_ok-met.ensures)) (none-met c.elements.result))
