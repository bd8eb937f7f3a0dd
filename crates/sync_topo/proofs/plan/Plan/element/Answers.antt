use Rattle.std.proofs.Common.{◌≡◌, ◌<◌, Some, length, slice_get, sym, ap, ◌∙◌, arith}
use Rattle.std.proofs.lemmas.Option.{slice_get-get_or}
use Rattle.sync_topo.specs.Topology.{Topology}
use Rattle.sync_topo.proofs.plan.Plan.element.Goals as goal

pub returns-clause-fits : goal.returns-clause-fits
returns-clause-fits c =
    let kept = c.self.inside.parts.elements.items in
    let count = ap (λ (plan : Topology). length plan.elements) c.self.view_is in
    let there : c.args.element < length kept = omega (arith, c.requires, count) in
    let read : slice_get kept c.args.element ≡ Some c.index.result.now
    = slice_get-get_or kept c.args.element c.index.result.now there ∙ ap Some (sym c.index.ensures) in
    rw (← c.self.view_is) (c.self.invariant.well_formed.elements_fit c.args.element c.index.result.now read)
