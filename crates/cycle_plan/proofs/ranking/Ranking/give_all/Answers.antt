use Rattle.std.proofs.Common.{◌∙◌, None, take, take_all, subst, sym, ap}
use Rattle.std.specs.Prelude.{◌≢◌, slice_index_or}
use Rattle.std.specs.List.{All}
use Rattle.std.proofs.lemmas.List.Elements.{All-more, All-weaker}
use Rattle.sync_topo.specs.declared.input.LineId.{LineId}
use Rattle.sync_topo.specs.Lines.{sender_of}
use Rattle.sync_topo.specs.private.Lines.{IsLineOut}
use Rattle.sync_topo.proofs.LineLaws.{IsNominated-within}
use Rattle.sync_topo.proofs.LinesOut.{lines_out-are, lines_out-all}
use Rattle.rank_cert.specs.Ranks.{rank_at}
use Rattle.cycle_plan.specs.private.Peeling.{IsAmong}
use Rattle.cycle_plan.proofs.PeelingLemmas.{fewer}
use Rattle.cycle_plan.proofs.Settling.{IsMore-trans, AreNext-grows}
use Rattle.cycle_plan.proofs.ranking.Ranking.give_all.Goals as goal

pub give_next-requires-clause-within : goal.give_next-requires-clause-within
give_next-requires-clause-within c =
    let out = subst (All (IsLineOut c.args.plan.now c.args.element)) (sym c.lines_out-line-items.ensures.lines) (lines_out-are c.args.plan.now c.args.element) in
    IsNominated-within c.args.plan.now (slice_index_or c.lines_out-line-items.result.now c.loop-line.line-index (record { 0 = 0 })).0
    (out c.loop-line.line-index (record { 0 = 0 }) c.loop-line-test.true).nominated

pub give_next-requires-clause-next : goal.give_next-requires-clause-next
give_next-requires-clause-next c = λ nominated among.
    let out = subst (All (IsLineOut c.args.plan.now c.args.element)) (sym c.lines_out-line-items.ensures.lines) (lines_out-are c.args.plan.now c.args.element) in
    c.loop-line.invariant.next (slice_index_or c.lines_out-line-items.result.now c.loop-line.line-index (record { 0 = 0 })).0 nominated
    (out c.loop-line.line-index (record { 0 = 0 }) c.loop-line-test.true).sent among

pub loop-line-preserved : goal.loop-line-preserved
loop-line-preserved c =
    let more = c.in_ok-give_next.ensures.more in
    let out = subst (All (IsLineOut c.args.plan.now c.args.element)) (sym c.lines_out-line-items.ensures.lines) (lines_out-are c.args.plan.now c.args.element) in
    let output = out c.loop-line.line-index (record { 0 = 0 }) c.loop-line-test.true in
    record {
      more = IsMore-trans c.args.returns c.args.plan.now c.args.self.now c.loop-line.self c.give_next.new.self c.loop-line.invariant.more more;
      next = AreNext-grows c.args.returns c.args.plan.now c.loop-line.self.ranks c.give_next.new.self.ranks c.args.element c.args.only c.top-top.result more.grows c.loop-line.invariant.next;
      given =
          All-more (λ (line : LineId). IsAmong c.args.returns c.args.plan.now c.args.only line.0 → rank_at c.give_next.new.self.ranks line.0 ≢ None) c.lines_out-line-items.result.now c.loop-line.line-index (record { 0 = 0 }) c.loop-line-test.true
          (All-weaker (λ (line : LineId). IsAmong c.args.returns c.args.plan.now c.args.only line.0 → rank_at c.loop-line.self.ranks line.0 ≢ None) (λ (line : LineId). IsAmong c.args.returns c.args.plan.now c.args.only line.0 → rank_at c.give_next.new.self.ranks line.0 ≢ None)
          (λ line some among none. some among (fewer (rank_at c.loop-line.self.ranks) (rank_at c.give_next.new.self.ranks) more.grows line.0 none))
          (take c.loop-line.line-index c.lines_out-line-items.result.now) c.loop-line.invariant.given)
          (c.in_ok-give_next.ensures.given output.nominated);
      others = λ other apart.
          c.in_ok-give_next.ensures.others other (λ same. apart (ap (λ l. sender_of c.args.plan.now l) same ∙ output.sent))
          ∙ c.loop-line.invariant.others other apart;
    }

pub returns-clause-given : goal.returns-clause-given
returns-clause-given c = λ line nominated sent.
    lines_out-all (λ (l : LineId). IsAmong c.args.returns c.args.plan.now c.args.only l.0 → rank_at c.loop-line.self.ranks l.0 ≢ None) c.args.plan.now c.args.element
    (subst (λ lines. All (λ (l : LineId). IsAmong c.args.returns c.args.plan.now c.args.only l.0 → rank_at c.loop-line.self.ranks l.0 ≢ None) lines)
    (take_all c.loop-line.line-index c.lines_out-line-items.result.now c.loop-line-test.false ∙ c.lines_out-line-items.ensures.lines) c.loop-line.invariant.given)
    line nominated sent
