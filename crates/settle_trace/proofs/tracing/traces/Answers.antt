use Rattle.std.proofs.Common.{◌≡◌, ℕ, List, IfOk, subst, sym}
use Rattle.std.specs.List.{All}
use Rattle.std.specs.Prelude.{Some, slice_get}
use Rattle.std.proofs.lemmas.Result.{IfOk-weaker}
use Rattle.sync_topo.specs.declared.event.Event.{Event}
use Rattle.sync_net.specs.Standing.{StandsFor}
use Rattle.closed_walks.specs.declared.traced.Ending.{Ending}
use Rattle.settle_trace.specs.Now.{taken_now}
use Rattle.closed_walks.specs.Taking.{taken_in_list, AreTaken}
use Rattle.closed_walks.specs.Within.{IsEndOf}
use Rattle.closed_walks.specs.Traces.{end_of, EndsSo}
use Rattle.settle_trace.proofs.TracedNow.{trace-now}
use Rattle.closed_walks.proofs.WithinLaws.{ends-answered}
use Rattle.settle_trace.proofs.tracing.traces.Goals as goal

pub returns-clause-exact : goal.returns-clause-exact
returns-clause-exact c =
    let net = c.args.net.now in
    IfOk-weaker c.endings_of.result
    (λ (endings : List Ending). (element : ℕ) (ending : Ending) → slice_get endings element ≡ Some ending → EndsSo c.plan.result.now (taken_in_list c.as_slice.result.now) element ending)
    (λ (endings : List Ending). (all : List Event) → StandsFor net all net.next → (element : ℕ) (ending : Ending) → slice_get endings element ≡ Some ending
    → EndsSo net.plan (taken_now net all) element ending)
    (λ (endings : List Ending) each all stands element ending at.
    let ends = each element ending at in (
      ends.0,
      ends.1,
      trace-now net c.plan.result.now c.as_slice.result.now c.in_ok-taken.taken.items element ends.0 (end_of ending.end)
          c.plan.ensures c.as_slice.ensures.value (c.in_ok-taken.ensures.now c.requires.stepped) ends.2 all stands,
    ))
    c.endings_of.ensures.each

pub returns-clause-of_plan : goal.returns-clause-of_plan
returns-clause-of_plan c =
    let net = c.args.net.now in
    let taken = subst (AreTaken net.plan) (sym c.as_slice.ensures.value) c.in_ok-taken.ensures.taken in
    subst (λ plan. IfOk c.endings_of.result (All (IsEndOf plan))) c.plan.ensures
    (ends-answered c.plan.result.now c.as_slice.result.now c.endings_of.result c.endings_of.ensures.well_formed
    (subst (λ plan. AreTaken plan c.as_slice.result.now) (sym c.plan.ensures) taken) c.endings_of.ensures.count c.endings_of.ensures.each)
