use Rattle.rank_cert.proofs.Finds.{first_to-found, first_to-none}
use Rattle.rank_cert.proofs.rising.first_to.Goals as goal

pub returns-in-Some : goal.returns-in-Some
returns-in-Some c =
    first_to-found c.args.returns c.args.plan.now c.args.cert.now c.args.next.0 c.from.result c.in-Some.line.0 c.loop-input.input-index c.inputs-inputs.result.now _
    c.loop-input.invariant c.inputs-inputs.ensures.inputs c.from.ensures.sender c.loop-input-test.true c.in-Some.ensures

pub returns : goal.returns
returns c =
    first_to-none c.args.returns c.args.plan.now c.args.cert.now c.args.next.0 c.from.result c.loop-input.input-index c.inputs-inputs.result.now
    c.loop-input.invariant c.inputs-inputs.ensures.inputs c.from.ensures.sender c.loop-input-test.false
