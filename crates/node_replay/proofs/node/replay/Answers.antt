use Rattle.sync_text.proofs.Failures.{refused-more}
use Rattle.node_replay.proofs.Feeding.{refused_front, front_on, whole_fed, sent_for}
use Rattle.node_replay.proofs.OfNetwork.{network-text}
use Rattle.node_replay.proofs.node.replay.Goals as goal

pub returns-in-Err-clause-refused : goal.returns-in-Err-clause-refused
returns-in-Err-clause-refused c =
    let so_far = c.loop-left.invariant in
    refused-more c.in-Err.error (λ error refused.
    refused_front c.args.plan.now c.args.element c.args.until c.args.bytes.now c.loop-left.node c.loop-left.left.now c.split_at.result.0.now _ error so_far
    c.split_at.ensures.front (refused so_far.front so_far.fed)) c.in-Err.ensures.refused

pub loop-left-preserved : goal.loop-left-preserved
loop-left-preserved c =
    let so_far = c.loop-left.invariant in
    front_on c.args.plan.now c.args.element c.args.until c.args.bytes.now c.loop-left.node c.feed.new.self c.loop-left.left.now c.split_at.result.0.now c.split_at.result.1.now _ so_far
    c.split_at.ensures.front c.split_at.ensures.back c.in_default.ensures.plan c.in_default.ensures.element c.in_default.ensures.until c.in_default.ensures.live c.in_default.ensures.ended
    (c.in_default.ensures.fed so_far.front so_far.fed)

pub returns-in-Ok-clause-sent : goal.returns-in-Ok-clause-sent
returns-in-Ok-clause-sent c =
    let so_far = c.loop-left.invariant in
    let fed = whole_fed c.args.plan.now c.args.element c.args.until c.args.bytes.now c.loop-left.node c.loop-left.left.now so_far c.loop-left-test.ensures in
    sent_for c.loop-left.node.lines.plan c.args.plan.now c.loop-left.node.lines.element c.args.element c.loop-left.node.replay.until c.args.until c.args.bytes.now c.in-Ok.replayed
    so_far.plan_is so_far.element_is so_far.until_is (c.in-Ok.ensures.sent c.args.bytes.now fed)

pub returns-in-Ok-clause-network : goal.returns-in-Ok-clause-network
returns-in-Ok-clause-network c =
    network-text c.args.plan.now c.args.element c.args.bytes.now c.args.until c.in-Ok.replayed c.elements-elements.ensures.well_formed (returns-in-Ok-clause-sent c)
