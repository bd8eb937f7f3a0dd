use Rattle.settle_trace.specs.Now.{now_of}
use Rattle.sync_sweep.proofs.EarlierLemmas.{settled-by}
use Rattle.sync_sweep.proofs.outcomes.outcome_of.Goals as goal

pub loops_of-requires-clause-loop_free : goal.loops_of-requires-clause-loop_free
loops_of-requires-clause-loop_free c = λ says all stands rank rising lines. c.settled-settled.ensures.loop_free says all rank stands rising lines

pub returns-clause-shown : goal.returns-clause-shown
returns-clause-shown c = λ all stands.
    let counts = c.tally_of-tally.ensures.counted all stands in
    record {
      settled = c.settled-settled.ensures.exact all stands;
      locked = counts.locked;
      holdover = counts.holdover;
      free = counts.free;
      loops = c.in_ok-loops.ensures all stands;
      worst = c.tally_of-tally.ensures.worst all stands;
    }

pub returns-clause-due : goal.returns-clause-due
returns-clause-due c = λ all stands none.
    let net = c.args.net.now in
    settled-by net.plan c.args.last (now_of net) c.args.bound c.settled-settled.result c.requires.bound
    (λ by is late. c.settled-settled.ensures.bound all c.args.last by stands none is late)
