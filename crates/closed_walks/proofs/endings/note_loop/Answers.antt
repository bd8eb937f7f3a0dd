use Rattle.std.proofs.Common.{◌∙◌, subst, sym, arith}
use Rattle.std.proofs.lemmas.List.{length-set}
use Rattle.net_rules.specs.GoingBack.{ComesBack}
use Rattle.closed_walks.specs.Taking.{taken_in_list}
use Rattle.closed_walks.proofs.KnownLaws.{note-step, note-over}
use Rattle.closed_walks.proofs.endings.note_loop.Goals as goal

pub loop-line-preserved : goal.loop-line-preserved
loop-line-preserved c = record {
  within = c.taken_from-at.ensures.within;
  count = length-set c.loop-line.known c.loop-line.at _ ∙ c.loop-line.invariant.count;
  noted = λ line takes comes.
      note-step c.args.plan.now c.args.taken.now c.lines_round-count.result line c.loop-line._line c.args.element c.loop-line.at c.taken_from-at.result c.args.known.now c.loop-line.known
      c.elements-elements.ensures.well_formed c.requires.taken takes comes c.loop-line-test.true c.loop-line.invariant.within c.taken_from-at.ensures.from
      (c.loop-line.invariant.noted line takes comes);
}

pub returns : goal.returns
returns c = λ count line takes comes.
    let same = c.lines_round-count.ensures count line takes comes in
    let round : ComesBack c.args.plan.now (taken_in_list c.args.taken.now) c.lines_round-count.result line
    = subst (λ n. ComesBack c.args.plan.now (taken_in_list c.args.taken.now) n line) (sym same) comes in
    note-over c.args.plan.now c.args.taken.now c.lines_round-count.result line c.loop-line._line c.args.element c.args.known.now c.loop-line.known c.requires.taken takes round
    (omega (arith, c.loop-line-test.false, c.loop-line.auto._line-end)) c.requires.known (c.loop-line.invariant.noted line takes round).0
