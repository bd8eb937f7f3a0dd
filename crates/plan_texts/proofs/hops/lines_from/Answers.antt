use Rattle.plan_texts.proofs.RowsOfHops.{AreLinesFrom-none}
use Rattle.plan_texts.proofs.hops.lines_from.Goals as goal

pub loop-number-init : goal.loop-number-init
loop-number-init c = AreLinesFrom-none c.args.plan.now c.args.hops.now c.in_ok-lines.lines.items c.in_ok-lines.ensures
