use Rattle.std.proofs.Common.{◌≡◌, ◌<◌, ◌∙◌, IfSome, arith, sym, subst}
use Rattle.agenda.specs.DueTimes.{due_in}
use Rattle.sync_element.specs.Whole.{inputs_kept}
use Rattle.sync_element.proofs.FirstTimes.{at_each}
use Rattle.sync_element.proofs.renewing.renew_due.Goals as goal

pub loop-i-preserved : goal.loop-i-preserved
loop-i-preserved c =
    let now = c.args.now in
    let i = c.loop-i.i in
    let x_then = inputs_kept c.renew_if_due.new.inputs in
    record {
      can = c.renew_if_due.ensures.can;
      count = c.renew_if_due.ensures.count ∙ c.loop-i.invariant.count;
      passed = at_each (λ k. IfSome (due_in x_then.dues k) (λ due. now < due)) i
          (λ k less. subst (λ o. IfSome o (λ due. now < due)) (sym (c.renew_if_due.ensures.others k (let apart : ¬ (k ≡ i) = omega arith in apart))) (c.loop-i.invariant.passed k less))
          c.renew_if_due.ensures.here;
      kept = λ told before all.
          let kept = c.loop-i.invariant.kept told before all in
          let more = c.renew_if_due.ensures.kept told before kept.renewed in
          record { renewed = more.renewed; done = λ k inside done. more.done k inside (kept.done k inside done) };
    }
