use Rattle.std.proofs.Common.{◌≡◌, ◌+◌, ap, sym, ◌∙◌, arith}
use Rattle.std.proofs.Math.Decide.{dec_lt}
use Rattle.std.specs.Prelude.{Some}
use Rattle.sync_topo.specs.Lines.{line_input, receiver_of}
use Rattle.net_rules.specs.Walks.{Taken}
use Rattle.closed_walks.specs.Taking.{taken_in_list}
use Rattle.closed_walks.proofs.KnownLaws.{taken-own, round-next, round-full, round-back, few-round}
use Rattle.closed_walks.proofs.endings.lines_round.Goals as goal

pub returns-then-at-element : goal.returns-then-at-element
returns-then-at-element c = λ whole line takes comes.
    let plan = c.args.plan.now in
    let taken : Taken = taken_in_list c.args.taken.now in
    let own = taken-own plan c.args.taken.now c.requires.taken in
    let here = c.loop-count.invariant.here whole line takes comes in
    let to : receiver_of plan line ≡ c.args.element = own c.args.element line takes in
    let first : taken (receiver_of plan line) ≡ Some (line_input line) = ap taken to ∙ takes in
    let next = round-next plan taken whole line own comes c.loop-count.count c.loop-count.at c.taken_from-at.result first here.0 here.1 c.taken_from-at.ensures.from in
    round-full plan taken whole line own comes c.loop-count.count first here.0 (sym next ∙ c.if-at-element.true ∙ sym to)

pub loop-count-preserved : goal.loop-count-preserved
loop-count-preserved c = record {
  within = c.taken_from-at.ensures.within;
  here = λ whole line takes comes.
      let plan = c.args.plan.now in
      let taken : Taken = taken_in_list c.args.taken.now in
      let own = taken-own plan c.args.taken.now c.requires.taken in
      let here = c.loop-count.invariant.here whole line takes comes in
      let to : receiver_of plan line ≡ c.args.element = own c.args.element line takes in
      let first : taken (receiver_of plan line) ≡ Some (line_input line) = ap taken to ∙ takes in
      let next = round-next plan taken whole line own comes c.loop-count.count c.loop-count.at c.taken_from-at.result first here.0 here.1 c.taken_from-at.ensures.from in (
        elim (dec_lt (c.loop-count.count + 1) whole) [
          | yes inside ↦ inside
          | no last ↦ absurd (c.if-at-element.false (next ∙ round-back plan taken whole line own comes (c.loop-count.count + 1) (omega (arith, last, here.0)) ∙ to))
        ],
        next,
      );
}

pub returns : goal.returns
returns c = λ whole line takes comes.
    let plan = c.args.plan.now in
    let taken : Taken = taken_in_list c.args.taken.now in
    let own = taken-own plan c.args.taken.now c.requires.taken in
    let here = c.loop-count.invariant.here whole line takes comes in
    let to : receiver_of plan line ≡ c.args.element = own c.args.element line takes in
    let few = few-round plan c.args.taken.now whole line c.elements.ensures.well_formed c.requires.taken comes (ap taken to ∙ takes) in
    absurd (omega (arith, few, here.0, c.loop-count-test.false, c.elements-count-end.ensures.count))
