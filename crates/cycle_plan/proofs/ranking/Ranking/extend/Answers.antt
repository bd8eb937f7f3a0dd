use Rattle.std.proofs.Common.{arith}
use Rattle.cycle_plan.proofs.ReachLemmas.{line_there, line_within, has_room, AreReaches-next}
use Rattle.cycle_plan.proofs.ranking.Ranking.extend.Goals as goal

pub from-sender-requires : goal.from-sender-requires
from-sender-requires c =
    line_within c.args.plan.now c.args.self.now.ranks c.args.self.now.order.items c.args.place c.index-line.result.now c.requires.done.peeling.ordered c.requires.within c.index-line.ensures

pub bundle-bundle-requires : goal.bundle-bundle-requires
bundle-bundle-requires c = omega (arith, line_within c.args.plan.now c.args.self.now.ranks c.args.self.now.order.items c.args.place c.index-line.result.now c.requires.done.peeling.ordered c.requires.within c.index-line.ensures)

pub over-chain-requires-clause-links : goal.over-chain-requires-clause-links
over-chain-requires-clause-links c =
    (has_room c.args.plan.now c.args.self.now.ranks c.args.self.now.order.items c.args.place c.from-sender.result c.bundle-bundle.result c.args.reaches.now
    c.from-sender.ensures.well_formed c.requires.done.peeling.ordered c.requires.within c.requires.before c.from-sender.ensures.within).links

pub over-chain-requires-clause-since : goal.over-chain-requires-clause-since
over-chain-requires-clause-since c =
    (has_room c.args.plan.now c.args.self.now.ranks c.args.self.now.order.items c.args.place c.from-sender.result c.bundle-bundle.result c.args.reaches.now
    c.from-sender.ensures.well_formed c.requires.done.peeling.ordered c.requires.within c.requires.before c.from-sender.ensures.within).since

pub over-chain-requires-clause-clocks : goal.over-chain-requires-clause-clocks
over-chain-requires-clause-clocks c =
    (has_room c.args.plan.now c.args.self.now.ranks c.args.self.now.order.items c.args.place c.from-sender.result c.bundle-bundle.result c.args.reaches.now
    c.from-sender.ensures.well_formed c.requires.done.peeling.ordered c.requires.within c.requires.before c.from-sender.ensures.within).clocks

pub to-receiver-requires : goal.to-receiver-requires
to-receiver-requires c =
    line_within c.args.plan.now c.args.self.now.ranks c.args.self.now.order.items c.args.place c.index-line.result.now c.requires.done.peeling.ordered c.requires.within c.index-line.ensures

pub returns : goal.returns
returns c = record {
  after =
      AreReaches-next c.args.plan.now c.args.self.now.ranks c.args.self.now.order.items c.args.place c.index-line.result.now.0 c.args.reaches.now c.from-sender.result
      c.to-receiver.result c.raised.result c.requires.done.peeling.ordered (line_there c.args.self.now.order.items c.args.place c.index-line.result.now c.requires.within c.index-line.ensures) c.requires.before (record {
        sender_is = c.from-sender.ensures.sender;
        receiver_is = c.to-receiver.ensures.receiver;
        sender_within = c.from-sender.ensures.within;
        receiver_within = c.to-receiver.ensures.within;
        bundle = c.bundle-bundle.result;
        bundle_is = c.bundle-bundle.ensures.bundle;
        chain = c.over-chain.result;
        chain_is = rw (← c.is_filter.ensures) c.over-chain.ensures;
        new_is = c.raised.ensures;
      });
}
