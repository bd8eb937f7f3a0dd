use Rattle.std.proofs.Common.{map, arith}
use Rattle.std.specs.Prelude.{◌==◌}
use Rattle.sync_topo.specs.Lines.{line_count, sender_of}
use Rattle.node_rules.specs.NodeText.{lines_out}
use Rattle.node_replay.specs.private.Starting.{new_out}
use Rattle.node_replay.proofs.RowWords.{step-range, end-range}
use Rattle.node_replay.proofs.starting.new_lines_out.Goals as goal

pub loop-number-preserved : goal.loop-number-preserved
loop-number-preserved c =
    step-range new_out (λ line. sender_of c.args.plan.now line == c.args.element) (line_count c.args.plan.now) c.loop-number.number c.loop-number.lines c.add_line_out.new.lines
    (map new_out (lines_out c.args.plan.now c.args.element)) (omega (arith, c.loop-number-test.true, c.lines-number-end.ensures.count)) c.loop-number.invariant c.in_ok-add_line_out.ensures

pub returns : goal.returns
returns c =
    end-range new_out (λ line. sender_of c.args.plan.now line == c.args.element) (line_count c.args.plan.now) c.loop-number.number c.loop-number.lines
    (map new_out (lines_out c.args.plan.now c.args.element)) (omega (arith, c.loop-number-test.false, c.lines-number-end.ensures.count)) c.loop-number.invariant
