use Rattle.std.proofs.Common.{◌≡◌, ◌+◌, length, nat_eq, take}
use Rattle.std.specs.List.{list_any}
use Rattle.sync_net.specs.private.Stages.{AreEvaluated, is_out_of}
use Rattle.sync_net.proofs.evaluating.evaluate_elements.Given as goal

-- the elements behind are evaluated
abbrev pub invariant-loop-element : goal.invariant-loop-element
invariant-loop-element g l = record {
  steps : l.steps ≡ l.fn.steps + l.element-index;
  evaluated : AreEvaluated l.now (length l.fn.elements) (is_out_of l.plan)
      (λ e. list_any (nat_eq e) (take l.element-index l.active.listed))
      (record { elements = l.fn.elements; changes = l.fn.changes; dues = l.fn.dues; called = l.fn.called.flags })
      (record { elements = l.elements; changes = l.changes; dues = l.dues; called = l.called.flags });
}
