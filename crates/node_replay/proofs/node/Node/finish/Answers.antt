use Rattle.std.proofs.Common.{◌≡◌, ℕ, List, Err, false, subst, ◌∙◌}
use Rattle.node_file.specs.NodeFile.{rows_of}
use Rattle.node_file.specs.Cutting.{with_row}
use Rattle.node_replay.specs.NodeState.{WasFed}
use Rattle.node_replay.specs.Sent.{IsSentText}
use Rattle.node_replay.proofs.Feeding.{stands_whole, ended_for}
use Rattle.node_replay.proofs.OfNetwork.{network-text}
use Rattle.node_replay.proofs.node.Node.finish.Goals as goal

pub returns-in-Err-clause-refused : goal.returns-in-Err-clause-refused
returns-in-Err-clause-refused c =
    subst (λ node. (bytes : List ℕ) → WasFed node bytes → rows_of node.lines.plan node.lines.element bytes ≡ Err c.in-Err.refused) c.node.view_is
    (λ bytes fed. c.in-Err.ensures.refused bytes fed.rows fed.read)

pub returns-in-Ok-finish-clause-sent : goal.returns-in-Ok-finish-clause-sent
returns-in-Ok-finish-clause-sent c =
    let live : c.node.inside.spent ≡ false = rw (← c.node.view_is) at c.requires.live in
    let same = c.node.invariant live in
    subst (λ node. (bytes : List ℕ) → WasFed node bytes → IsSentText node.lines.plan node.lines.element bytes node.replay.until c.in-Ok-finish.replayed) c.node.view_is
    (λ bytes fed.
    let rows = with_row fed.rows c.in-Ok.last in
    let stands = stands_whole c.node.inside.lines c.node.inside.replay c.take_row.new.replay bytes c.in-Ok.last fed same.plan same.element c.in-Ok.ensures.fits c.in-Ok.ensures.later
    c.in_ok-take_row.ensures.stands in (
      rows,
      c.in-Ok.ensures.whole bytes fed.rows fed.read,
      ended_for c.take_row.new.replay.plan c.node.inside.lines.plan c.take_row.new.replay.element c.node.inside.lines.element c.take_row.new.replay.until c.node.inside.replay.until rows
          c.in-Ok-finish.replayed (c.in_ok-take_row.ensures.plan ∙ same.plan) (c.in_ok-take_row.ensures.element ∙ same.element) c.in_ok-take_row.ensures.until
          (c.in-Ok-finish.ensures.replayed rows stands),
    ))

pub returns-in-Ok-finish-clause-network : goal.returns-in-Ok-finish-clause-network
returns-in-Ok-finish-clause-network c = λ bytes fed well.
    let node = c.args.self in
    network-text node.lines.plan node.lines.element bytes node.replay.until c.in-Ok-finish.replayed well (returns-in-Ok-finish-clause-sent c bytes fed)
