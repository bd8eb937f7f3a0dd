use Rattle.cycle_plan.proofs.TopLemmas.{IsTop-none}
use Rattle.cycle_plan.proofs.top.top_of.Goals as goal

pub loop-place-init : goal.loop-place-init
loop-place-init c = rw (c.none-top.ensures) (IsTop-none c.args.returns c.args.plan.now c.args.cert.now c.args.inputs.now)
