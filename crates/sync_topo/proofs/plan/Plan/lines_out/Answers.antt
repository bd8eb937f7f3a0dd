use Rattle.std.proofs.Common.{◌≡◌, ◌<◌, Some, length, slice_get, sym, ap, ◌∙◌, arith}
use Rattle.std.proofs.lemmas.Option.{slice_get-get_or}
use Rattle.sync_topo.specs.Topology.{Topology}
use Rattle.sync_topo.proofs.plan.Plan.lines_out.Goals as goal

pub returns-clause-lines : goal.returns-clause-lines
returns-clause-lines c =
    let kept = c.self.inside.parts.wiring.lines_out.items in
    let count = ap (λ (plan : Topology). length plan.elements) c.self.view_is in
    let there : c.args.element < length kept = omega (arith, c.requires, c.self.invariant.wired.lines_out_counted, count) in
    let read : slice_get kept c.args.element ≡ Some c.index.result.now
    = slice_get-get_or kept c.args.element c.index.result.now there ∙ ap Some (sym c.index.ensures) in
    c.as_slice.ensures.value ∙ (rw (← c.self.view_is) (rw read at (c.self.invariant.wired.lines_out_kept c.args.element)))
