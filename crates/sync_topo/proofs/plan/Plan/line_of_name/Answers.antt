use Rattle.std.proofs.Common.{◌≡◌, false, Some, sym, ap, ◌∙◌}
use Rattle.sync_topo.specs.Topology.{Topology}
use Rattle.sync_topo.specs.Names.{is_named, place_of}
use Rattle.sync_topo.specs.Names.{link_names}
use Rattle.sync_topo.proofs.LineNames.{unsigned-names_no_line, unknown_link-names_no_line, known_link-names_line}
use Rattle.sync_topo.proofs.NameLaws.{line-by-name}
use Rattle.sync_topo.proofs.plan.Plan.line_of_name.Goals as goal

pub returns-in_err-link-clause-line : goal.returns-in_err-link-clause-line
returns-in_err-link-clause-line c =
    rw c.from_residual.ensures (sym (unsigned-names_no_line c.args.self.now c.args.name.now (rw c.self.view_is at c.self.invariant.well_formed) c.in_err-link.ensures.none))

pub returns-in_err-number-clause-line : goal.returns-in_err-number-clause-line
returns-in_err-number-clause-line c =
    let well = rw c.self.view_is at c.self.invariant.well_formed in
    let kept : c.self.inside.parts.link_names ≡ link_names c.args.self.now.links
    = c.self.invariant.link_names_kept ∙ ap (λ (plan : Topology). link_names plan.links) c.self.view_is in
    let unknown : is_named (link_names c.args.self.now.links) c.in_ok-link.link.now ≡ false = rw kept at (sym c.in_err-number.ensures.found) in
    rw c.from_residual-in_err-number.ensures (sym (unknown_link-names_no_line c.args.self.now c.args.name.now c.in_ok-link.link.now c.in_ok-link.receiver.now well c.in_ok-link.ensures.cut unknown))

pub returns-clause-line : goal.returns-clause-line
returns-clause-line c =
    let well = rw c.self.view_is at c.self.invariant.well_formed in
    let kept : c.self.inside.parts.link_names ≡ link_names c.args.self.now.links
    = c.self.invariant.link_names_kept ∙ ap (λ (plan : Topology). link_names plan.links) c.self.view_is in
    let placed : place_of (link_names c.args.self.now.links) c.in_ok-link.link.now ≡ Some c.in_ok-number.number = rw kept at (sym c.in_ok-number.ensures.place) in
    c.line_into.ensures.line ∙ known_link-names_line c.args.self.now c.args.name.now c.in_ok-link.link.now c.in_ok-link.receiver.now c.in_ok-number.number well c.in_ok-link.ensures.cut placed

pub returns-in_err-number-clause-exact : goal.returns-in_err-number-clause-exact
returns-in_err-number-clause-exact c =
    rw (returns-in_err-number-clause-line c) (line-by-name c.args.self.now c.args.name.now (rw c.self.view_is at c.self.invariant.well_formed))

pub returns-clause-exact : goal.returns-clause-exact
returns-clause-exact c =
    rw (returns-clause-line c) (line-by-name c.args.self.now c.args.name.now (rw c.self.view_is at c.self.invariant.well_formed))
