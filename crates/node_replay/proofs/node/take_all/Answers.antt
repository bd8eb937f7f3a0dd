use Rattle.std.proofs.Common.{◌+◌, ◌++◌, ◌∙◌, sym}
use Rattle.std.specs.Prelude.{length, IfSome}
use Rattle.sync_text.proofs.Failures.{refused-more}
use Rattle.node_file.specs.NodeRow.{IsRowOf}
use Rattle.node_replay.proofs.Feeding.{room_on, fed_line, fed_on, refused_on}
use Rattle.node_replay.proofs.node.take_all.Goals as goal

pub take_row-requires : goal.take_row-requires
take_row-requires c =
    let before = c.loop-left.invariant in
    record {
      live = before.live;
      row = rw (before.replay_plan ∙ c.requires.same_plan ∙ sym before.plan, before.replay_element ∙ c.requires.same_element ∙ sym before.element) c.in-Ok.ensures.fits;
    }

pub loop-left-preserved : goal.loop-left-preserved
loop-left-preserved c =
    let before = c.loop-left.invariant in
    let here = rw (c.in-Some.is) at before.room in
    let was = rw (c.in-Some.is) at before.fed in
    let taken = c.in-Ok.ensures in
    let row = c.in_ok-take_row.ensures in
    record {
      plan = taken.plan ∙ before.plan;
      element = taken.element ∙ before.element;
      replay_plan = row.plan ∙ before.replay_plan;
      replay_element = row.element ∙ before.replay_element;
      until = row.until ∙ before.until;
      live = row.live;
      room = room_on (λ left. left.now) (c.args.lines.now.ended + length c.args.piece.now) c.loop-left.lines.ended c.take.new.self.ended (length c.in-Some.bytes.now) c.in-Ok.taken.1
          here taken.ended taken.shorter;
      fed = λ bytes fed.
          let given = was bytes fed in
          fed_on (λ left. left.now) c.take.new.self c.take_row.new.replay bytes given.0 c.in-Some.bytes.now c.args.piece.now c.in-Ok.taken.1 given.1
          (fed_line (λ left. left.now) c.in-Ok.taken.1 c.loop-left.lines c.take.new.self c.loop-left.replay c.take_row.new.replay c.in-Ok.taken.0 (bytes ++ given.0) c.in-Some.bytes.now
          taken.plan taken.element (before.replay_plan ∙ c.requires.same_plan ∙ sym before.plan) (before.replay_element ∙ c.requires.same_element ∙ sym before.element)
          taken.none taken.fits taken.later taken.before taken.read row.stands given.2);
    }

pub returns-in-Err-clause-refused : goal.returns-in-Err-clause-refused
returns-in-Err-clause-refused c =
    let before = c.loop-left.invariant in
    let was = rw (c.in-Some.is) at before.fed in
    refused-more c.in-Err.error (λ error refused bytes fed.
    let given = was bytes fed in
    refused_on c.loop-left.lines.plan c.args.lines.now.plan c.loop-left.lines.element c.args.lines.now.element error bytes given.0 c.in-Some.bytes.now c.args.piece.now
    before.plan before.element given.1 (refused (bytes ++ given.0) given.2.rows given.2.read)) c.in-Err.ensures.refused
