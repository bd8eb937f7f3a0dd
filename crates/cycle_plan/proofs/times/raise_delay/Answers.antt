use Rattle.std.proofs.Common.{◌∙◌, sym}
use Rattle.cycle_plan.proofs.FailureLemmas.{AreDelaysInto-same, AreDelaysInto-raised}
use Rattle.cycle_plan.proofs.times.raise_delay.Goals as goal

pub returns-then-not-nominated : goal.returns-then-not-nominated
returns-then-not-nominated c = record {
  after = AreDelaysInto-same c.args.plan.now c.args.line.0 c.args.delays.now (sym c.nominated.ensures.nominated ∙ c.if-not-nominated.true) c.requires.before;
}

pub returns : goal.returns
returns c = record {
  after =
      AreDelaysInto-raised c.args.plan.now c.args.line.0 c.args.delays.now c.to-receiver.result c.delay.result c.longer.result
      (sym c.nominated.ensures.nominated ∙ c.if-not-nominated.false) c.to-receiver.ensures.receiver c.to-receiver.ensures.within c.delay.ensures.delay
      c.delay.ensures.at_most c.longer.ensures c.requires.before;
}
