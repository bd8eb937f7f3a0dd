use Rattle.std.proofs.Common.{◌≡◌, ◌<◌, length, ap, sym, ◌∙◌, arith}
use Rattle.std.proofs.lemmas.Option.{same_Some}
use Rattle.sync_topo.specs.Topology.{Topology}
use Rattle.sync_topo.specs.Bundles.{lowest_of_bundle}
use Rattle.sync_topo.proofs.BundleLemmas.{lowest-there}
use Rattle.sync_topo.proofs.plan.Plan.bundle.Goals as goal

pub returns-clause-lowest : goal.returns-clause-lowest
returns-clause-lowest c =
    let links = c.self.inside.parts.links.items in
    let count = ap (λ (plan : Topology). length plan.links) c.self.view_is in
    let within : c.args.link < length links = omega (arith, c.requires, count) in
    let is : c.bundle_of.result ≡ lowest_of_bundle links c.args.link = same_Some _ _ (sym c.bundle_of.ensures ∙ c.self.invariant.bundles_kept.kept c.args.link within) in
    omega (arith, is, (lowest-there links c.args.link within).at_most)
