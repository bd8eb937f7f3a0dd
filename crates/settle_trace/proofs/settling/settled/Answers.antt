use Rattle.settle_trace.specs.Now.{now_of, signals_of, out_of}
use Rattle.settle_trace.proofs.settling.settled.Goals as goal

pub returns-clause-stays : goal.returns-clause-stays
returns-clause-stays c = λ says all stands none unswitched u later.
    let net = c.args.net.now in
    c.event_law.ensures.stays net.plan all (now_of net) u c.is_settled.ensures.well_formed ((c.is_settled.ensures.exact all stands).0 says) none unswitched later

pub returns-clause-bound : goal.returns-clause-bound
returns-clause-bound c = λ all last bound stands none is late.
    let net = c.args.net.now in
    (c.is_settled.ensures.exact all stands).1 (c.event_law.ensures.bound net.plan all last bound (now_of net) c.is_settled.ensures.well_formed none is late)

pub returns-clause-loop_free : goal.returns-clause-loop_free
returns-clause-loop_free c = λ says all rank stands rising lines.
    let net = c.args.net.now in
    let well = c.is_settled.ensures.well_formed in
    (c.rising_law.ensures.obeying net.plan (signals_of net all) (out_of net all) rank well (c.history_law.ensures.obeys net.plan (signals_of net all) well) rising (now_of net)).none_settled
    ((c.is_settled.ensures.exact all stands).0 says) lines

pub returns-clause-traced : goal.returns-clause-traced
returns-clause-traced c = λ says all rank stands rising element lines end.
    let net = c.args.net.now in
    let well = c.is_settled.ensures.well_formed in
    (c.rising_law.ensures.obeying net.plan (signals_of net all) (out_of net all) rank well (c.history_law.ensures.obeys net.plan (signals_of net all) well) rising (now_of net)).traced
    ((c.is_settled.ensures.exact all stands).0 says) element lines end
