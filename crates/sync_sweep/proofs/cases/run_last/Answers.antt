use Rattle.std.proofs.Common.{inl, inr, refl, arith}
use Rattle.sync_sweep.proofs.CaseLemmas.{last-merged}
use Rattle.sync_sweep.proofs.cases.run_last.Goals as goal

pub returns-then-shared-alone : goal.returns-then-shared-alone
returns-then-shared-alone c = λ plan first second.
    let shared = c.events_until.ensures.within plan first in
    let alone = c.events_until-2.ensures.within plan second in
    last-merged plan c.args.common.now c.args.own.now c.events_until.result.now c.events_until-2.result.now c.args.until
    c.last_time-shared.result c.last_time-alone.result c.last_time-alone.result first
    (c.events_until.ensures.told plan first) (c.events_until-2.ensures.told plan second) shared alone
    (c.last_time-shared.ensures shared.list.in_order) (c.last_time-alone.ensures alone.list.in_order)
    (omega (arith, c.if-shared-alone.true)) (omega arith) (inr refl)

pub returns-else-shared-alone : goal.returns-else-shared-alone
returns-else-shared-alone c = λ plan first second.
    let shared = c.events_until.ensures.within plan first in
    let alone = c.events_until-2.ensures.within plan second in
    last-merged plan c.args.common.now c.args.own.now c.events_until.result.now c.events_until-2.result.now c.args.until
    c.last_time-shared.result c.last_time-alone.result c.last_time-shared.result first
    (c.events_until.ensures.told plan first) (c.events_until-2.ensures.told plan second) shared alone
    (c.last_time-shared.ensures shared.list.in_order) (c.last_time-alone.ensures alone.list.in_order)
    (omega arith) (omega (arith, c.if-shared-alone.false)) (inl refl)
