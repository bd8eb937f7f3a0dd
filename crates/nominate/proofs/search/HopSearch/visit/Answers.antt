use Rattle.std.proofs.Common.{take, take_all, subst}
use Rattle.std.specs.List.{All}
use Rattle.std.proofs.lemmas.List.Elements.{All-more, All-weaker}
use Rattle.sync_topo.specs.declared.input.LineId.{LineId}
use Rattle.sync_topo.specs.Lines.{receiver_of}
use Rattle.nominate.specs.private.Searching.{IsClose}
use Rattle.nominate.proofs.SearchLemmas.{IsMore-trans, close-grows}
use Rattle.nominate.proofs.search.HopSearch.visit.Goals as goal

pub reach-requires-clause-of_depth : goal.reach-requires-clause-of_depth
reach-requires-clause-of_depth c =
    let output = c.requires.outputs c.loop-line.line-index (record { 0 = 0 }) c.loop-line-test.true in
    let more = c.loop-line.invariant.more in
    rw (output.sent, more.still_depth) (more.grows c.args.element c.args.self.now.depth c.requires.of_depth)

pub loop-line-preserved : goal.loop-line-preserved
loop-line-preserved c =
    let more = c.in_ok-reach.ensures.more in
    let before = c.loop-line.invariant.more in
    record {
      more = IsMore-trans c.args.plan.now c.args.self.now c.loop-line.self c.reach.new.self before more;
      close =
          All-more (λ (line : LineId). IsClose c.reach.new.self.counts.items c.args.self.now.depth (receiver_of c.args.plan.now line.0)) c.args.outputs.now c.loop-line.line-index (record { 0 = 0 }) c.loop-line-test.true
          (All-weaker (λ (line : LineId). IsClose c.loop-line.self.counts.items c.args.self.now.depth (receiver_of c.args.plan.now line.0)) (λ (line : LineId). IsClose c.reach.new.self.counts.items c.args.self.now.depth (receiver_of c.args.plan.now line.0))
          (λ line close. close-grows c.args.plan.now c.loop-line.self c.reach.new.self c.args.self.now.depth (receiver_of c.args.plan.now line.0) more close)
          (take c.loop-line.line-index c.args.outputs.now) c.loop-line.invariant.close)
          (rw (← before.still_depth) c.in_ok-reach.ensures.close);
    }

pub returns-clause-close : goal.returns-clause-close
returns-clause-close c =
    subst (λ lines. All (λ (line : LineId). IsClose c.loop-line.self.counts.items c.args.self.now.depth (receiver_of c.args.plan.now line.0)) lines)
    (take_all c.loop-line.line-index c.args.outputs.now c.loop-line-test.false) c.loop-line.invariant.close
