use Rattle.std.proofs.Common.{◌-◌, length, sym, subst, ap, ◌∙◌, arith, refl}
use Rattle.std.proofs.lemmas.Bool.{true≢false}
use Rattle.sync_topo.specs.WellFormed.{IsWellFormed}
use Rattle.sync_net.proofs.SteadyElements.{all-steady}
use Rattle.settle_trace.specs.Now.{signals_of, out_of}
use Rattle.settle_trace.specs.private.Resting.{AreSteady}
use Rattle.settle_trace.proofs.ElementLaws.{element-answers}
use Rattle.settle_trace.proofs.NetLaws.{one-more, settled-element}
use Rattle.settle_trace.proofs.settling.are_inputs_steady.Goals as goal

pub returns-then-not-none_ends-clause-steady : goal.returns-then-not-none_ends-clause-steady
returns-then-not-none_ends-clause-steady c = λ all stands.
    let net = c.args.net.now in
    let answers = element-answers net.plan (signals_of net all) (out_of net all) c.loop-element.element net.next c.element.result.now c.none_ends.result c.requires.stepped
    (c.element.ensures.stands all net.next stands) c.none_ends.ensures.value c.none_ends.ensures.ends c.none_ends.ensures.next in (
      λ never. absurd (true≢false (sym never)),
      λ steady. absurd (true≢false (sym (answers.1 (settled-element net.plan (signals_of net all) (net.next - 1) c.loop-element.element steady)) ∙ c.if-not-none_ends.true)),
    )

pub loop-element-preserved : goal.loop-element-preserved
loop-element-preserved c = λ all stands.
    let net = c.args.net.now in
    let answers = element-answers net.plan (signals_of net all) (out_of net all) c.loop-element.element net.next c.element.result.now c.none_ends.result c.requires.stepped
    (c.element.ensures.stands all net.next stands) c.none_ends.ensures.value c.none_ends.ensures.ends c.none_ends.ensures.next in
    one-more (AreSteady net.plan (signals_of net all) (net.next - 1)) c.loop-element.element (c.loop-element.invariant all stands) (answers.0 c.if-not-none_ends.false)

pub returns-clause-steady : goal.returns-clause-steady
returns-clause-steady c = λ all stands.
    let net = c.args.net.now in
    let well : IsWellFormed net.plan = subst IsWellFormed c.plan.ensures c.elements-element-end.ensures.well_formed in (
      λ _. all-steady net.plan (signals_of net all) (net.next - 1) well (λ k within.
          c.loop-element.invariant all stands k (omega (arith, within, c.loop-element-test.false, c.elements-element-end.ensures.count, ap (λ p. length p.elements) c.plan.ensures))),
      λ _. refl,
    )
