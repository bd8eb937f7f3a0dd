use Rattle.std.proofs.Common.{ap, subst, ◌∙◌}
use Rattle.std.specs.Prelude.{option_and_then, slice_get}
use Rattle.sync_topo.specs.Lines.{inputs_of}
use Rattle.settle_trace.specs.Now.{signals_of, out_of}
use Rattle.settle_trace.specs.Taking.{IsTaking}
use Rattle.settle_trace.proofs.TakenLaws.{own-input, taken-now}
use Rattle.settle_trace.proofs.taken.taken_input.Goals as goal

pub returns-clause-own : goal.returns-clause-own
returns-clause-own c =
    own-input c.args.net.now.plan c.args.element c.selected.result c.input_at.result
    (c.input_at.ensures.input ∙ ap (λ p. option_and_then (slice_get (inputs_of p c.args.element)) c.selected.result) c.plan.ensures)

pub returns-clause-now : goal.returns-clause-now
returns-clause-now c = λ stepped all stands.
    let net = c.args.net.now in
    taken-now net.plan (signals_of net all) (out_of net all) c.args.element net.next c.element.result.now c.selected.result c.input_at.result stepped
    (c.element.ensures.stands all net.next stands) c.selected.ensures.selected
    (c.input_at.ensures.input ∙ ap (λ p. option_and_then (slice_get (inputs_of p c.args.element)) c.selected.result) c.plan.ensures)

pub returns-clause-taking : goal.returns-clause-taking
returns-clause-taking c = λ other.
    let net = c.args.net.now in
    subst (λ element. IsTaking net.plan c.args.element element c.input_at.result) (c.element.ensures.element other)
    (record {
      is = λ past n stands in_time.
          c.input_at.ensures.input
          ∙ ap (λ p. option_and_then (slice_get (inputs_of p c.args.element)) c.selected.result) c.plan.ensures
          ∙ ap (option_and_then (slice_get (inputs_of net.plan c.args.element))) (c.selected.ensures.selected past n stands in_time);
    })
