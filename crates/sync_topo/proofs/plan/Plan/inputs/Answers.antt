use Rattle.std.proofs.Common.{◌≡◌, ◌<◌, Some, length, slice_get, sym, ap, ◌∙◌, arith}
use Rattle.std.proofs.lemmas.Option.{slice_get-get_or}
use Rattle.sync_topo.specs.Topology.{Topology}
use Rattle.sync_topo.specs.Lines.{inputs_of}
use Rattle.sync_topo.proofs.Inputs.{inputs_of-within}
use Rattle.sync_topo.proofs.plan.Plan.inputs.Goals as goal

-- what is kept for the element are its inputs
own-inputs : (c : goal.After-as_slice) → c.index.result.now.items ≡ inputs_of c.args.self.now c.args.element
own-inputs c =
    let kept = c.self.inside.parts.wiring.inputs.items in
    let count = ap (λ (plan : Topology). length plan.elements) c.self.view_is in
    let there : c.args.element < length kept = omega (arith, c.self.invariant.wired.inputs_counted, count) in
    let read : slice_get kept c.args.element ≡ Some c.index.result.now
    = slice_get-get_or kept c.args.element c.index.result.now there ∙ ap Some (sym c.index.ensures) in
    rw (← c.self.view_is) (rw read at (c.self.invariant.wired.inputs_kept c.args.element))

pub returns-clause-within : goal.returns-clause-within
returns-clause-within c = rw (c.as_slice.ensures.value, own-inputs c) (inputs_of-within c.args.self.now c.args.element)

pub returns-clause-few : goal.returns-clause-few
returns-clause-few c =
    rw (c.as_slice.ensures.value, own-inputs c) ((rw c.self.view_is at c.self.invariant.well_formed).few_inputs c.args.element)
