use Rattle.std.proofs.Common.{sym, ap, ◌∙◌}
use Rattle.group_file.specs.GroupText.{is_header}
use Rattle.group_file.proofs.RowLaws.{three_row}
use Rattle.group_file.proofs.reading.is_header.Goals as goal

pub returns-in-Some : goal.returns-in-Some
returns-in-Some c =
    c.are_headings.ensures ∙ ap is_header (sym (three_row c.args.first.now c.in-Some.group.now c.in-Some.kind.now c.in-Some.part.now (sym c.in-Some.ensures)))
