use Rattle.prio_mode.proofs.Turning.{turned, turned-stands}
use Rattle.prio_mode.proofs.running.PriorityRun.turn.Goals as goal

pub returns-clause-run : goal.returns-clause-run
returns-clause-run c =
    turned c.args.plan.now c.args.now c.args.here.now c.args.self.now c.call.new.self
    c.visit_all.new.self
    c.as_slice.result.now c.args.text.now c.visit_all.new.text c.requires.run
    c.in_ok-call.ensures.called
    (rw c.as_slice.ensures.value c.in_ok-order.ensures) c.in_ok-visit_all.ensures

pub returns-clause-stands : goal.returns-clause-stands
returns-clause-stands c =
    turned-stands c.args.plan.now c.args.now c.args.here.now c.args.self.now c.call.new.self
    c.visit_all.new.self c.as_slice.result.now c.args.text.now c.visit_all.new.text c.requires.run
    c.in_ok-call.ensures.called (rw c.as_slice.ensures.value c.in_ok-order.ensures)
    c.in_ok-visit_all.ensures
