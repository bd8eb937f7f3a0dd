use Rattle.std.proofs.Common.{ℕ, List, map, IfOk, subst}
use Rattle.std.specs.List.{All}
use Rattle.std.proofs.lemmas.Result.{IfOk-weaker}
use Rattle.sync_text.specs.Each.{Each}
use Rattle.sync_topo.specs.declared.event.Event.{Event}
use Rattle.sync_topo.specs.Hops.{IsRising}
use Rattle.sync_topo.specs.WellFormed.{IsWellFormed}
use Rattle.net_rules.specs.Walks.{IsFacingPair}
use Rattle.sync_net.specs.Standing.{StandsFor}
use Rattle.settle_trace.specs.Now.{now_of, signals_of, out_of, taken_now}
use Rattle.closed_walks.specs.Taking.{taken_in_list}
use Rattle.closed_walks.specs.Within.{AreLinesOf}
use Rattle.sync_topo.specs.Lines.{numbers}
use Rattle.closed_walks.specs.Loops.{AreLoops}
use Rattle.settle_trace.proofs.TracedNow.{loops-now, loops-facing}
use Rattle.settle_trace.proofs.tracing.loops.Goals as goal

pub returns-clause-exact : goal.returns-clause-exact
returns-clause-exact c =
    let net = c.args.net.now in
    IfOk-weaker c.walks_of.result
    (λ walks. AreLoops c.plan.result.now (taken_in_list c.as_slice.result.now) (map numbers walks))
    (λ walks. (all : List Event) → StandsFor net all net.next → AreLoops net.plan (taken_now net all) (map numbers walks))
    (λ walks is. loops-now net c.plan.result.now c.as_slice.result.now c.in_ok-taken.taken.items (map numbers walks)
    c.plan.ensures c.as_slice.ensures.value (c.in_ok-taken.ensures.now c.requires.stepped) is)
    c.walks_of.ensures.loops

pub returns-clause-facing : goal.returns-clause-facing
returns-clause-facing c =
    let net = c.args.net.now in
    let well : IsWellFormed net.plan = subst IsWellFormed c.plan.ensures c.walks_of.ensures.well_formed in
    IfOk-weaker c.walks_of.result
    (λ walks. AreLoops c.plan.result.now (taken_in_list c.as_slice.result.now) (map numbers walks))
    (λ walks. (all : List Event) (rank : ℕ → ℕ) → StandsFor net all net.next → IsRising net.plan rank → Each (IsFacingPair net.plan) (map numbers walks))
    (λ walks is all rank stands rising.
    loops-facing net.plan (taken_now net all) (map numbers walks)
    (c.rising_law.ensures.obeying net.plan (signals_of net all) (out_of net all) rank well (c.history_law.ensures.obeys net.plan (signals_of net all) well) rising (now_of net)).pairs
    (loops-now net c.plan.result.now c.as_slice.result.now c.in_ok-taken.taken.items (map numbers walks)
    c.plan.ensures c.as_slice.ensures.value (c.in_ok-taken.ensures.now c.requires.stepped) is all stands))
    c.walks_of.ensures.loops

pub returns-clause-of_plan : goal.returns-clause-of_plan
returns-clause-of_plan c = subst (λ plan. IfOk c.walks_of.result (All (AreLinesOf plan))) c.plan.ensures c.walks_of.ensures.of_plan
