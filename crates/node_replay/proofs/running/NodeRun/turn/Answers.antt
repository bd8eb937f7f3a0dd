use Rattle.std.proofs.Common.{◌<◌, sym, subst, ap, ◌∙◌}
use Rattle.std.specs.List.{All, filter_map}
use Rattle.sync_topo.specs.Lines.{line_count}
use Rattle.node_replay.specs.declared.frames.Sent.{Sent}
use Rattle.node_replay.specs.private.Keeping.{frame_of}
use Rattle.node_replay.specs.private.Turning.{IsWritten}
use Rattle.node_replay.proofs.TurnLaws.{taken-run, written-run, turn-holds, frames-within}
use Rattle.node_replay.proofs.running.NodeRun.turn.Goals as goal

pub send-requires-clause-lines : goal.send-requires-clause-lines
send-requires-clause-lines c =
    let mid = taken-run c.args.plan.now c.args.element c.args.here.now c.args.self.now c.take_rows.new.self c.requires.run c.requires.in_range c.requires.here c.in_ok-take_rows.ensures in
    let frames = c.as_slice-2.ensures ∙ c.in_ok-frames.ensures ∙ ap (filter_map (frame_of c.args.self.now.next)) c.as_slice.ensures.value in
    subst (All (λ (sent : Sent). sent.line.0 < line_count c.args.plan.now)) (sym frames)
    (frames-within c.args.plan.now c.args.element c.args.self.now.next c.take_rows.new.self.lines_out.items mid.lines)

pub returns-clause-run : goal.returns-clause-run
returns-clause-run c =
    written-run c.args.plan.now c.args.element c.args.self.now.next c.as_slice-2.result.now c.take_rows.new.self c.send.new.self
    (taken-run c.args.plan.now c.args.element c.args.here.now c.args.self.now c.take_rows.new.self c.requires.run c.requires.in_range c.requires.here c.in_ok-take_rows.ensures)
    c.in_ok-send.ensures

pub returns-clause-holds : goal.returns-clause-holds
returns-clause-holds c = λ rows until here early stands.
    let mid = taken-run c.args.plan.now c.args.element c.args.here.now c.args.self.now c.take_rows.new.self c.requires.run c.requires.in_range c.requires.here c.in_ok-take_rows.ensures in
    let frames = c.as_slice-2.ensures ∙ c.in_ok-frames.ensures ∙ ap (filter_map (frame_of c.args.self.now.next)) c.as_slice.ensures.value in
    turn-holds c.args.plan.now c.args.element c.args.here.now rows c.args.self.now c.take_rows.new.self c.send.new.self c.requires.run c.in_ok-take_rows.ensures mid here stands
    until early c.requires.going c.most_rows-most.ensures.lines
    (subst (λ xs. IsWritten c.args.plan.now c.args.element c.args.self.now.next xs c.take_rows.new.self c.send.new.self) frames c.in_ok-send.ensures)
