use Rattle.std.proofs.Common.{◌≡◌, ◌<◌, ℕ, List, map, length, subst, sym, ◌∙◌}
use Rattle.std.specs.Prelude.{Some, slice_get}
use Rattle.std.proofs.lemmas.Result.{IfOk-weaker}
use Rattle.closed_walks.specs.declared.traced.Ending.{Ending}
use Rattle.closed_walks.specs.Taking.{taken_in_list}
use Rattle.closed_walks.specs.Traces.{EndsSo}
use Rattle.closed_walks.specs.private.Known.{IsKnown}
use Rattle.closed_walks.proofs.KnownLaws.{found-each, found-known, found-count}
use Rattle.closed_walks.proofs.endings.endings_of.Goals as goal

pub all_known-requires : goal.all_known-requires
all_known-requires c =
    subst (λ known. (k : ℕ) → k < length known → IsKnown known k) (sym c.as_slice.ensures.value)
    (found-known c.args.plan.now (taken_in_list c.args.taken.now) c.find_endings.new.known.items c.in_ok-find_endings.ensures.found)

pub returns-clause-count : goal.returns-clause-count
returns-clause-count c =
    IfOk-weaker c.all_known.result
    (λ (endings : List Ending). map Some endings ≡ c.as_slice.result.now)
    (λ (endings : List Ending). length endings ≡ length c.args.plan.now.elements)
    (λ (endings : List Ending) is. found-count c.args.plan.now (taken_in_list c.args.taken.now) c.find_endings.new.known.items endings c.in_ok-find_endings.ensures.found (is ∙ c.as_slice.ensures.value))
    c.all_known.ensures

pub returns-clause-each : goal.returns-clause-each
returns-clause-each c =
    IfOk-weaker c.all_known.result
    (λ (endings : List Ending). map Some endings ≡ c.as_slice.result.now)
    (λ (endings : List Ending). (element : ℕ) (ending : Ending) → slice_get endings element ≡ Some ending → EndsSo c.args.plan.now (taken_in_list c.args.taken.now) element ending)
    (λ (endings : List Ending) is. found-each c.args.plan.now (taken_in_list c.args.taken.now) c.find_endings.new.known.items endings c.in_ok-find_endings.ensures.found (is ∙ c.as_slice.ensures.value))
    c.all_known.ensures
