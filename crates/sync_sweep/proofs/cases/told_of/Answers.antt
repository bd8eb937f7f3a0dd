use Rattle.std.proofs.Common.{◌≡◌, sym, subst, ◌∙◌, arith}
use Rattle.std.proofs.lemmas.Result.{IfOk-weaker}
use Rattle.sync_topo.specs.Topology.{Topology}
use Rattle.sync_topo.specs.Events.{IsEventList}
use Rattle.event_times.specs.EventTimes.{AreTold, AreWithin}
use Rattle.sync_sweep.specs.Cases.{merged}
use Rattle.sync_sweep.proofs.CaseLemmas.{told-merged, within-merged}
use Rattle.sync_sweep.proofs.cases.told_of.Goals as goal

pub returns-clause-told : goal.returns-clause-told
returns-clause-told c =
    IfOk-weaker c.merge.result (λ told. told ≡ merged c.events_from-rest.result.now c.events_from-own.result.now)
    (λ told. (plan : Topology) → IsEventList plan c.args.common.now → IsEventList plan c.args.own.now
    → AreTold plan (merged c.args.common.now c.args.own.now) c.args.from c.args.until told)
    (λ told is plan first second.
    let shared = c.events_until.ensures.told plan first in
    let alone = c.events_until-2.ensures.told plan second in
    subst (AreTold plan (merged c.args.common.now c.args.own.now) c.args.from c.args.until) (sym is)
    (told-merged plan c.args.common.now c.args.own.now c.events_from-rest.result.now c.events_from-own.result.now c.args.from c.args.until first second
    (λ t low high. shared.here t (omega arith) high ∙ c.events_from-rest.ensures.same t low)
    (λ t low high. alone.here t (omega arith) high ∙ c.events_from-own.ensures.same t low)
    (c.events_from-rest.ensures.within plan c.args.until (c.events_until.ensures.within plan first))))
    c.merge.ensures

pub returns-clause-within : goal.returns-clause-within
returns-clause-within c =
    IfOk-weaker c.merge.result (λ told. told ≡ merged c.events_from-rest.result.now c.events_from-own.result.now)
    (λ told. (plan : Topology) → IsEventList plan c.args.common.now → IsEventList plan c.args.own.now → AreWithin plan c.args.from c.args.until told)
    (λ told is plan first second.
    subst (AreWithin plan c.args.from c.args.until) (sym is)
    (within-merged plan c.events_from-rest.result.now c.events_from-own.result.now c.args.from c.args.until
    (c.events_from-rest.ensures.within plan c.args.until (c.events_until.ensures.within plan first))
    (c.events_from-own.ensures.within plan c.args.until (c.events_until-2.ensures.within plan second))))
    c.merge.ensures
