use Rattle.std.proofs.Common.{◌∙◌}
use Rattle.sync_net.specs.private.Taking.{Taking}
use Rattle.sync_net.proofs.TakenLaws.{are-taken}
use Rattle.sync_net.proofs.events.take_events.Goals as goal

pub returns-clause-taken : goal.returns-clause-taken
returns-clause-taken c =
    let was : Taking = record { lines = c.args.lines.now; sources = c.args.sources.now; marks = c.args.marks.now.flags; tellings = c.args.tellings.now } in
    let now : Taking = record { lines = c.note_lines.new.lines; sources = c.note_source_levels.new.sources; marks = c.note_lines.new.marks.flags; tellings = c.note_source_levels.new.tellings } in
    are-taken c.args.plan.now c.elements-elements.ensures.well_formed c.args.events.now was now c.note_sources.new.sources c.tell_events.new.tellings
    c.note_lines.ensures c.note_sources.ensures.noted c.in_ok-tell_events.ensures c.in_ok-note_source_levels.ensures.told c.in_ok-note_source_levels.ensures.settled
    (c.note_sources.ensures.noted.count ∙ c.requires.sources) c.note_sources.ensures.of_option
