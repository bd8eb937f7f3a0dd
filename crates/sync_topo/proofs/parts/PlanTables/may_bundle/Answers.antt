use Rattle.std.proofs.Common.{◌≡◌, ◌<◌, true, not, Some, None, length, slice_get, ap, sym, ◌∙◌, arith}
use Rattle.std.proofs.lemmas.Option.{slice_get-get_or}
use Rattle.sync_text.proofs.Ranges.{find_range-Some}
use Rattle.sync_topo.specs.Bundles.{join_same}
use Rattle.sync_topo.specs.private.Kept.{names_bundle, first_of_bundle}
use Rattle.sync_topo.specs.Names.{is_name}
use Rattle.sync_topo.proofs.BundleRules.{bad-unnamed, bad-named, bad-new, bad-first, twice-not}
use Rattle.sync_topo.proofs.parts.PlanTables.may_bundle.Goals as goal

pub returns-in_default : goal.returns-in_default
returns-in_default c = ap not (sym (bad-unnamed c.args.self.now.links.items c.args.link.now c.in_default.is))

pub returns-then-not-is_name : goal.returns-then-not-is_name
returns-then-not-is_name c =
    let named = c.in-Some.is ∙ ap Some (sym c.bytes.ensures) in
    ap not (sym (bad-named c.args.self.now.links.items c.args.link.now _ named (sym c.is_name.ensures ∙ c.if-not-is_name.true)))

pub index-requires : goal.index-requires
index-requires c =
    let links = c.args.self.now.links.items in
    let found : first_of_bundle links c.bytes-2.result.now ≡ Some c.in-Some-first.first
    = sym (c.requires.bundles_kept.found c.bytes-2.result.now) ∙ sym c.in-Some-first.ensures.first in
    omega (arith, (find_range-Some (names_bundle links c.bytes-2.result.now) 0 (length links) c.in-Some-first.first found).3, c.args.self.now.links.ok)

pub returns-in-Some-first : goal.returns-in-Some-first
returns-in-Some-first c =
    let links = c.args.self.now.links.items in
    let name = c.bytes-2.result.now in
    let first = c.in-Some-first.first in
    let found : first_of_bundle links name ≡ Some first = sym (c.requires.bundles_kept.found name) ∙ sym c.in-Some-first.ensures.first in
    let within : first < length links = omega (arith, (find_range-Some (names_bundle links name) 0 (length links) first found).3) in
    let at : slice_get links first ≡ Some c.index.result.now = slice_get-get_or links first c.index.result.now within ∙ ap Some (sym c.index.ensures) in
    let good : is_name name ≡ true = ap is_name (c.bytes-2.ensures ∙ sym c.bytes.ensures) ∙ sym c.is_name.ensures ∙ c.if-not-is_name.false in
    let bad = bad-first links c.args.link.now c.index.result.now name first c.requires.well_formed.bundles_join (c.in-Some.is ∙ ap Some (sym c.bytes-2.ensures)) good found at in
    c.join_same.ensures ∙ twice-not (join_same c.index.result.now c.args.link.now) ∙ ap not (sym bad)

pub returns-in-None : goal.returns-in-None
returns-in-None c =
    let links = c.args.self.now.links.items in
    let name = c.bytes-2.result.now in
    let none : first_of_bundle links name ≡ None = sym (c.requires.bundles_kept.found name) ∙ sym c.in-None.ensures.first in
    let good : is_name name ≡ true = ap is_name (c.bytes-2.ensures ∙ sym c.bytes.ensures) ∙ sym c.is_name.ensures ∙ c.if-not-is_name.false in
    ap not (sym (bad-new links c.args.link.now name (c.in-Some.is ∙ ap Some (sym c.bytes-2.ensures)) good none))
