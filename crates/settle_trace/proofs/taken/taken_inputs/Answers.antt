use Rattle.std.proofs.Common.{◌≡◌, ◌<◌, ◌+◌, ℕ, slice_index_or, ◌∙◌}
use Rattle.std.specs.Prelude.{Option}
use Rattle.sync_topo.specs.declared.input.InputId.{InputId}
use Rattle.settle_trace.specs.Now.{taken_now}
use Rattle.settle_trace.specs.Taking.{IsTaking}
use Rattle.settle_trace.proofs.TakenLaws.{pushed, pushed-count, own-pushed}
use Rattle.settle_trace.proofs.taken.taken_inputs.Goals as goal

pub loop-element-preserved : goal.loop-element-preserved
loop-element-preserved c =
    let net = c.args.net.now in
    let before = c.loop-element.inputs.items in
    let after = c.push.new.self.items in
    let e : ℕ = c.loop-element.element in
    let is = c.loop-element.invariant in
    let more = c.in_ok-push.ensures.items in
    record {
      count = pushed-count before after e c.taken_input.result is.count more;
      own = own-pushed net.plan before after e c.taken_input.result is.count more is.own c.taken_input.ensures.own;
      taking = λ k element. pushed (λ j (input : Option InputId). IsTaking net.plan j (slice_index_or net.elements j element) input) before after e c.taken_input.result is.count more
          (λ j. is.taking j element) (c.taken_input.ensures.taking element) k;
      now = λ begun all stands. pushed (λ j (input : Option InputId). input ≡ taken_now net all j) before after e c.taken_input.result is.count more
          (is.now begun all stands) (c.taken_input.ensures.now begun all stands);
    }
