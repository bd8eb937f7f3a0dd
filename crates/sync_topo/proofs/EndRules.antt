-- The rules for a link row and for a source row: those for its ends, and then those that look at the plan so far.
use Rattle.std.proofs.Common.{◌≡◌, true, false, [], ◌∷◌, ◌++◌, Some, None, refl, ◌∙◌}
use Rattle.std.specs.Prelude.{◌&&◌, drop}
use Rattle.sync_topo.specs.declared.rows.LinkRow.{LinkRow}
use Rattle.sync_topo.specs.declared.rows.SourceRow.{SourceRow}
use Rattle.sync_topo.specs.declared.place.Place.{Place}
use Rattle.sync_topo.specs.declared.place.Section.TheVariants.{Links, Sources}
use Rattle.sync_text.specs.declared.errors.NoAnswer.{NoAnswer}
use Rattle.sync_topo.specs.declared.error.PlanErr.{PlanErr}
use Rattle.sync_topo.specs.declared.error.PlanErr.TheVariants.{Limit, Bundle}
use Rattle.sync_topo.specs.Topology.{Topology}
use Rattle.sync_topo.specs.RowValues.{link_from, source_from, element_of_name}
use Rattle.sync_topo.specs.Rules.{link_rules, source_rules, is_bad_bundle, has_room, row_after}
use Rattle.sync_topo.specs.PlanRows.{first_broken}
use Rattle.sync_topo.specs.private.Ends.{end_rules}
use Rattle.sync_topo.specs.private.Steps.{Tells}
use Rattle.sync_topo.proofs.RowLoops.{Tells-front, kept-front}

-- what is told of the rules for the ends of a link is told of all of its rules
pub link-ends-told : (plan : Topology) (row : LinkRow) (error : NoAnswer PlanErr)
    → Tells error (first_broken (end_rules (link_rules plan row))) → Tells error (first_broken (link_rules plan row))
link-ends-told plan row error = Tells-front error (end_rules (link_rules plan row)) (drop 5 (link_rules plan row))

-- a bundle that is bad is told where the ends keep their rules
pub bad-bundle-told : (plan : Topology) (row : LinkRow) (place : Place) → place ≡ row_after Links plan.links
    → first_broken (end_rules (link_rules plan row)) ≡ None
    → is_bad_bundle plan.links (link_from plan.elements row) ≡ true
    → first_broken (link_rules plan row) ≡ Some (Bundle place)
bad-bundle-told plan row place here kept bad =
    kept-front (end_rules (link_rules plan row)) (drop 5 (link_rules plan row)) kept ∙ (rw bad (rw here refl))

-- and so is want of room for an input, where the bundle is good too
pub no-room-told : (plan : Topology) (row : LinkRow) (place : Place) → place ≡ row_after Links plan.links
    → first_broken (end_rules (link_rules plan row)) ≡ None
    → is_bad_bundle plan.links (link_from plan.elements row) ≡ false
    → (has_room (record plan { links = plan.links ++ link_from plan.elements row ∷ [] }) (element_of_name plan.elements row.a)
    && has_room (record plan { links = plan.links ++ link_from plan.elements row ∷ [] }) (element_of_name plan.elements row.b)) ≡ false
    → first_broken (link_rules plan row) ≡ Some (Limit place)
no-room-told plan row place here kept good full =
    kept-front (end_rules (link_rules plan row)) (drop 5 (link_rules plan row)) kept ∙ (rw good (rw full (rw here refl)))

-- the same for a source
pub source-ends-told : (plan : Topology) (row : SourceRow) (error : NoAnswer PlanErr)
    → Tells error (first_broken (end_rules (source_rules plan row))) → Tells error (first_broken (source_rules plan row))
source-ends-told plan row error = Tells-front error (end_rules (source_rules plan row)) (drop 5 (source_rules plan row))

pub no-room-at-told : (plan : Topology) (row : SourceRow) (place : Place) → place ≡ row_after Sources plan.sources
    → first_broken (end_rules (source_rules plan row)) ≡ None
    → has_room (record plan { sources = plan.sources ++ source_from plan.option plan.elements row ∷ [] }) (element_of_name plan.elements row.at) ≡ false
    → first_broken (source_rules plan row) ≡ Some (Limit place)
no-room-at-told plan row place here kept full =
    kept-front (end_rules (source_rules plan row)) (drop 5 (source_rules plan row)) kept ∙ (rw full (rw here refl))
