use Rattle.std.proofs.Common.{◌≡◌, Some, rules}
use Rattle.sync_topo.specs.Names.{place_of, link_names}
use Rattle.sync_topo.proofs.NameLaws.{found-by-name}
use Rattle.sync_topo.proofs.plan.Plan.link_of_name.Goals as goal

pub returns-in_err-place-clause-exact : goal.returns-in_err-place-clause-exact
returns-in_err-place-clause-exact c =
    let names = link_names c.args.self.now.links in
    let well = rw c.self.view_is at c.self.invariant.well_formed in
    let is : c.from_residual.result ≡ place_of names c.args.name.now = search rules in
    rw is (found-by-name names c.args.name.now well.links_distinct)

pub returns-clause-exact : goal.returns-clause-exact
returns-clause-exact c =
    let names = link_names c.args.self.now.links in
    let well = rw c.self.view_is at c.self.invariant.well_formed in
    let is : Some c.in_ok-place.place ≡ place_of names c.args.name.now = search rules in
    rw is (found-by-name names c.args.name.now well.links_distinct)
