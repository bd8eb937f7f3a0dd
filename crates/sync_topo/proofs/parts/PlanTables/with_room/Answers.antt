use Rattle.std.proofs.Common.{◌∙◌}
use Rattle.sync_topo.proofs.WellFormedLemmas.{IsIndexed-empty}
use Rattle.sync_topo.proofs.WiringLaws.{wired-empty}
use Rattle.sync_topo.proofs.parts.PlanTables.with_room.Goals as goal

pub returns-in-Ok-clause-indexed : goal.returns-in-Ok-clause-indexed
returns-in-Ok-clause-indexed c =
    let wired = c.new-8.ensures in let bundles = c.new-7.ensures in let room = c.make_room.ensures in
    let elements = room.elements ∙ c.new.ensures.items in let links = room.links ∙ c.new-2.ensures.items in let sources = room.sources ∙ c.new-3.ensures.items in
    IsIndexed-empty _ elements links sources (room.element_names ∙ c.new-4.ensures) (room.link_names ∙ c.new-5.ensures) (room.source_names ∙ c.new-6.ensures)
    (rw room.wiring (wired-empty _ _ elements links sources wired.inputs wired.lines_out wired.line_places wired.source_places))
    (rw (room.bundle_names, room.bundle_firsts, room.bundle_numbers) bundles)
