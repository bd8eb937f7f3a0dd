use Rattle.std.proofs.Common.{◌≡◌, ◌<◌, ℕ, length, get_or, set, ap, sym, ◌∙◌, arith, subst, length-set, get_or-set_other}
use Rattle.std.proofs.Math.Decide.{dec_lt}
use Rattle.std.proofs.lemmas.List.{get_or_default, get_or-set_same}
use Rattle.sync_ql.specs.declared.rules.Candidate.{Candidate}
use Rattle.sync_ql.specs.Selection.{candidate}
use Rattle.sync_ql.specs.Told.{IsOfOption}
use Rattle.sync_ql.proofs.Eligible.{nobody}
use Rattle.sync_element.specs.private.Starting.{first_candidate}
use Rattle.sync_element.proofs.Beginning.{no_input, input_option, same_option, candidates_first}
use Rattle.sync_element.proofs.starting.new_table.Goals as goal

pub set-requires-clause-one_option : goal.set-requires-clause-one_option
set-requires-clause-one_option c k =
    let config = c.args.config.now in
    let inputs = c.as_slice-inputs.result.now in
    let l = c.loop-i in
    let read : get_or inputs l.i no_input ≡ c.index-inputs-i.result = get_or_default inputs l.i no_input c.index-inputs-i.result c.loop-i-test.true ∙ sym c.index-inputs-i.is in
    let first : (j : ℕ) → IsOfOption config.own.option (get_or inputs j no_input).first = λ j. rw c.as_slice-inputs.ensures (input_option config c.requires.first j) in
    let here : IsOfOption config.own.option c.first_candidate-candidate.result.level = rw (c.first_candidate-candidate.ensures, ← read) (first l.i) in
    let there : IsOfOption config.own.option (candidate l.table k).level = elim (dec_lt k l.i) [
      | yes before ↦ subst (λ d. IsOfOption config.own.option d.level) (sym (l.invariant.first k before)) (first k)
      | no after ↦ subst (λ d. IsOfOption config.own.option d.level) (sym (l.invariant.others k (omega arith))) tt
    ] in
    same_option config.own.option c.first_candidate-candidate.result.level (candidate l.table k).level here there

pub loop-i-preserved : goal.loop-i-preserved
loop-i-preserved c =
    let config = c.args.config.now in
    let inputs = c.as_slice-inputs.result.now in
    let l = c.loop-i in
    let new : Candidate = c.first_candidate-candidate.result in
    let within : l.i < length l.table = omega (arith, l.invariant.count, c.loop-i-test.true) in
    let read : get_or inputs l.i no_input ≡ c.index-inputs-i.result = get_or_default inputs l.i no_input c.index-inputs-i.result c.loop-i-test.true ∙ sym c.index-inputs-i.is in
    let here : new ≡ first_candidate config.floor (get_or inputs l.i no_input) = c.first_candidate-candidate.ensures ∙ ap (first_candidate config.floor) (sym read) in
    record {
      count = ap length c.set.ensures ∙ length-set l.table l.i new ∙ l.invariant.count;
      first = λ k below. rw c.set.ensures (elim (dec_lt k l.i) [
        | yes before ↦ get_or-set_other l.table l.i k new nobody (omega arith) ∙ l.invariant.first k before
        | no after ↦
            let same : l.i ≡ k = omega arith in
            subst (λ j. candidate (set l.table l.i new) j ≡ first_candidate config.floor (get_or inputs j no_input)) same (get_or-set_same l.table l.i new nobody within ∙ here)
      ]);
      others = λ k after. rw c.set.ensures (get_or-set_other l.table l.i k new nobody (omega arith) ∙ l.invariant.others k (omega arith));
    }

pub returns : goal.returns
returns c =
    let config = c.args.config.now in
    let same = c.as_slice-inputs.ensures in
    candidates_first config c.loop-i.table (c.loop-i.invariant.count ∙ ap length same)
    (λ k within. subst (λ inputs. candidate c.loop-i.table k ≡ first_candidate config.floor (get_or inputs k no_input)) same
    (c.loop-i.invariant.first k (omega (arith, within, ap length same, c.loop-i-test.false))))
