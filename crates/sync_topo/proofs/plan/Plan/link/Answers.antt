use Rattle.std.proofs.Common.{◌≡◌, ◌<◌, Some, length, slice_get, sym, ap, ◌∙◌, arith}
use Rattle.std.proofs.lemmas.Option.{slice_get-get_or}
use Rattle.sync_topo.specs.Topology.{Topology}
use Rattle.sync_topo.proofs.plan.Plan.link.Goals as goal

pub returns-clause-fits : goal.returns-clause-fits
returns-clause-fits c =
    let kept = c.self.inside.parts.links.items in
    let count = ap (λ (plan : Topology). length plan.links) c.self.view_is in
    let there : c.args.link < length kept = omega (arith, c.requires, count) in
    let read : slice_get kept c.args.link ≡ Some c.index.result.now
    = slice_get-get_or kept c.args.link c.index.result.now there ∙ ap Some (sym c.index.ensures) in
    rw (← c.self.view_is) (c.self.invariant.well_formed.links_join c.args.link c.index.result.now read)
