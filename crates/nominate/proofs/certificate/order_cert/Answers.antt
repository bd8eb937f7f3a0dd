use Rattle.std.proofs.Common.{◌≡◌, List, ℕ, ap, arith, ◌∙◌}
use Rattle.sync_topo.specs.Lines.{line_count}
use Rattle.nominate.specs.private.Placing.{rank_by}
use Rattle.nominate.proofs.CertLaws.{AreRankedTo-more, order-ranks, order-ranked, order-no_other, order-rising, order-accepted, order-loop_free}
use Rattle.nominate.proofs.certificate.order_cert.Goals as goal

pub loop-number-preserved : goal.loop-number-preserved
loop-number-preserved c =
    AreRankedTo-more c.args.plan.now c.in_ok-priorities.priorities.items c.in_ok-places.places.items c.loop-number.number c.loop-number.cert c.set.new.self c.rank_by.result c.loop-number.invariant
    c.set.ensures.counted c.set.ensures.here
    (c.rank_by.ensures
    ∙ ap (λ (priorities : List ℕ). rank_by c.args.plan.now priorities c.as_slice-in-loop-number.result.now c.loop-number.number) c.as_slice.ensures.value
    ∙ ap (λ (places : List ℕ). rank_by c.args.plan.now c.in_ok-priorities.priorities.items places c.loop-number.number) c.as_slice-in-loop-number.ensures.value)
    c.set.ensures.others

pub returns-clause-places : goal.returns-clause-places
returns-clause-places c =
    let whole : c.loop-number.number ≡ line_count c.args.plan.now = omega (arith, c.loop-number-test.false, c.loop-number.auto.number-end, c.lines-number-end.ensures.count) in
    order-ranks c.args.plan.now c.in_ok-hops.hops c.lines-number-end.ensures.well_formed c.in_ok-hops.ensures.least c.in_ok-priorities.priorities.items c.in_ok-places.places.items c.loop-number.cert
    c.loop-number.number whole c.in_ok-priorities.ensures.given c.in_ok-places.ensures c.loop-number.invariant

pub returns-clause-ranked : goal.returns-clause-ranked
returns-clause-ranked c = λ nominated by_hops. order-ranked c.args.plan.now nominated c.loop-number.cert c.lines-number-end.ensures.well_formed (returns-clause-places c) by_hops

pub returns-clause-no_other : goal.returns-clause-no_other
returns-clause-no_other c = λ nominated by_hops. order-no_other c.args.plan.now nominated c.loop-number.cert c.lines-number-end.ensures.well_formed (returns-clause-places c) by_hops

pub returns-clause-rising : goal.returns-clause-rising
returns-clause-rising c = λ nominated by_hops. order-rising c.args.plan.now nominated c.loop-number.cert c.lines-number-end.ensures.well_formed (returns-clause-places c) by_hops

pub returns-clause-accepted : goal.returns-clause-accepted
returns-clause-accepted c = λ nominated verdict by_hops judged.
    order-accepted c.args.plan.now nominated c.loop-number.cert c.lines-number-end.ensures.well_formed (returns-clause-places c) by_hops verdict judged

pub returns-clause-loop_free : goal.returns-clause-loop_free
returns-clause-loop_free c = λ nominated by_hops. order-loop_free c.args.plan.now nominated c.loop-number.cert c.lines-number-end.ensures.well_formed (returns-clause-places c) by_hops
