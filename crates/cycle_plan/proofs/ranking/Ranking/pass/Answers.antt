use Rattle.std.proofs.Common.{ap, sym, ◌∙◌}
use Rattle.std.proofs.lemmas.Option.{same_Some}
use Rattle.cycle_plan.proofs.LateLemmas.{line_inside, IsTimed, passed-time, passed-few, passed-room, AreLates-next}
use Rattle.cycle_plan.proofs.ReachLemmas.{line_there}
use Rattle.cycle_plan.proofs.ranking.Ranking.pass.Goals as goal

pub from-sender-requires : goal.from-sender-requires
from-sender-requires c =
    line_inside c.args.plan.now c.args.self.now.ranks c.args.self.now.order.items c.args.place c.index-line.result.now c.requires.done.peeling.ordered c.requires.within c.index-line.ensures

pub to-receiver-requires : goal.to-receiver-requires
to-receiver-requires c =
    line_inside c.args.plan.now c.args.self.now.ranks c.args.self.now.order.items c.args.place c.index-line.result.now c.requires.done.peeling.ordered c.requires.within c.index-line.ensures

pub number_out-out-requires : goal.number_out-out-requires
number_out-out-requires c =
    line_inside c.args.plan.now c.args.self.now.ranks c.args.self.now.order.items c.args.place c.index-line.result.now c.requires.done.peeling.ordered c.requires.within c.index-line.ensures

pub delay-requires : goal.delay-requires
delay-requires c =
    line_inside c.args.plan.now c.args.self.now.ranks c.args.self.now.order.items c.args.place c.index-line.result.now c.requires.done.peeling.ordered c.requires.within c.index-line.ensures

pub number_in-into-requires : goal.number_in-into-requires
number_in-into-requires c =
    line_inside c.args.plan.now c.args.self.now.ranks c.args.self.now.order.items c.args.place c.index-line.result.now c.requires.done.peeling.ordered c.requires.within c.index-line.ensures

pub end_of-end-requires : goal.end_of-end-requires
end_of-end-requires c =
    let ordered = c.requires.done.peeling.ordered in
    let here = line_there c.args.self.now.order.items c.args.place c.index-line.result.now c.requires.within c.index-line.ensures in
    passed-room c.args.plan.now c.args.self.now.ranks c.args.self.now.order.items c.args.place c.greater-time.result c.from-sender.ensures.well_formed ordered c.requires.within
    (passed-few c.args.plan.now c.args.self.now.ranks c.args.self.now.order.items c.args.place c.index-line.result.now.0 c.args.delays.now c.args.lates.now c.from-sender.result
    c.greater-time.result ordered here c.requires.delays c.requires.before (record {
      sender_is = c.from-sender.ensures.sender;
      sender_within = c.from-sender.ensures.within;
      time_is = rw (← c.number_out-out.ensures, ← c.but.ensures, ← c.from.ensures) c.greater-time.ensures;
    }))

pub returns-clause-few : goal.returns-clause-few
returns-clause-few c =
    let ordered = c.requires.done.peeling.ordered in
    let here = line_there c.args.self.now.order.items c.args.place c.index-line.result.now c.requires.within c.index-line.ensures in
    passed-few c.args.plan.now c.args.self.now.ranks c.args.self.now.order.items c.args.place c.index-line.result.now.0 c.args.delays.now c.args.lates.now c.from-sender.result
    c.greater-time.result ordered here c.requires.delays c.requires.before (record {
      sender_is = c.from-sender.ensures.sender;
      sender_within = c.from-sender.ensures.within;
      time_is = rw (← c.number_out-out.ensures, ← c.but.ensures, ← c.from.ensures) c.greater-time.ensures;
    })

pub returns-clause-time : goal.returns-clause-time
returns-clause-time c times line are there =
    let ordered = c.requires.done.peeling.ordered in
    let here = line_there c.args.self.now.order.items c.args.place c.index-line.result.now c.requires.within c.index-line.ensures in
    passed-time c.args.plan.now c.args.self.now.ranks c.args.self.now.order.items c.args.place c.index-line.result.now.0 c.args.delays.now c.args.lates.now c.from-sender.result
    c.greater-time.result ordered here c.requires.delays c.requires.before (record {
      sender_is = c.from-sender.ensures.sender;
      sender_within = c.from-sender.ensures.within;
      time_is = rw (← c.number_out-out.ensures, ← c.but.ensures, ← c.from.ensures) c.greater-time.ensures;
    }) times are
    ∙ ap times (same_Some c.index-line.result.now.0 line (sym here ∙ there))

pub returns-clause-after : goal.returns-clause-after
returns-clause-after c =
    let ordered = c.requires.done.peeling.ordered in
    let here = line_there c.args.self.now.order.items c.args.place c.index-line.result.now c.requires.within c.index-line.ensures in
    let timed : IsTimed c.args.plan.now c.index-line.result.now.0 c.args.delays.now c.args.lates.now c.from-sender.result c.greater-time.result = record {
      sender_is = c.from-sender.ensures.sender;
      sender_within = c.from-sender.ensures.within;
      time_is = rw (← c.number_out-out.ensures, ← c.but.ensures, ← c.from.ensures) c.greater-time.ensures;
    } in
    AreLates-next c.args.plan.now c.args.self.now.order.items c.args.place c.index-line.result.now.0 c.args.lates.now c.to-receiver.result c.greater-time.result c.raised.result here
    (passed-time c.args.plan.now c.args.self.now.ranks c.args.self.now.order.items c.args.place c.index-line.result.now.0 c.args.delays.now c.args.lates.now c.from-sender.result
    c.greater-time.result ordered here c.requires.delays c.requires.before timed)
    (passed-few c.args.plan.now c.args.self.now.ranks c.args.self.now.order.items c.args.place c.index-line.result.now.0 c.args.delays.now c.args.lates.now c.from-sender.result
    c.greater-time.result ordered here c.requires.delays c.requires.before timed)
    c.requires.before (record {
      receiver_is = c.to-receiver.ensures.receiver;
      receiver_within = c.to-receiver.ensures.within;
      end = c.end_of-end.result;
      end_is = rw (← c.delay.ensures.delay) c.end_of-end.ensures;
      new_is = rw (← c.number_in-into.ensures) c.raised.ensures;
      short = rw (← c.delay.ensures.delay) c.delay.ensures.at_most;
    })
