use Rattle.std.proofs.Common.{◌≡◌, ◌++◌, length, take, refl, ap, sym, subst, ◌∙◌}
use Rattle.std.specs.Prelude.{Result, Ok, Err, OnOk, IfSome, slice_index_or}
use Rattle.std.proofs.lemmas.Option.{slice_get_read}
use Rattle.sync_ql.specs.Switches.{Switches, NamesInput}
use Rattle.inspection.specs.Commands.{is_taken}
use Rattle.inspection.specs.private.Tables.{after_asked, table_after}
use Rattle.inspection.proofs.Tabled.{table-room, tables-stay, tables-next, one-command}
use Rattle.inspection.proofs.commands.put_event.Goals as goal

-- what holds anyhow
on_ok : {T E P : Type 0} (result : Result T E) → P → OnOk result P
on_ok (Ok value) holds = holds
on_ok (Err error) holds = tt

pub returns-in_default-clause-tables : goal.returns-in_default-clause-tables
returns-in_default-clause-tables c =
    let events = c.args.events.now in
    let event = c.index-events-place.result in
    let at = slice_get_read events (length events) c.args.place event refl c.requires.place c.index-events-place.is in
    tables-stay c.args.plan.now events c.args.place event c.args.tables.now.items at (sym c.in_default.ensures.asked) c.requires.tables

pub apply-taken-requires-clause-place : goal.apply-taken-requires-clause-place
apply-taken-requires-clause-place c = λ other.
    let asked = c.in-Some.asked in
    let room = ap (λ (s : Switches). length s.locked) (c.requires.tables.each asked.element other c.in-Some.ensures.within.element) ∙ table-room c.args.plan.now (take c.args.place c.args.events.now) asked.element in
    subst (λ n. IfSome c.command_by.result (NamesInput n)) (sym room) c.command_by.ensures.place

pub returns-clause-put : goal.returns-clause-put
returns-clause-put c =
    let plan = c.args.plan.now in
    let events = c.args.events.now in
    let event = c.index-events-place.result in
    let asked = c.in-Some.asked in
    let tables = c.args.tables.now.items in
    let at = slice_get_read events (length events) c.args.place event refl c.requires.place c.index-events-place.is in
    let other = table_after plan (take c.args.place events) asked.element in
    let told = c.apply-taken.ensures.taken other ∙ ap (is_taken (slice_index_or tables asked.element other)) c.command_by.ensures.command in
    subst (λ row. OnOk c.put_row.result (c.put_row.new.text ≡ c.args.text.now ++ row))
    (sym (one-command plan events c.args.place event asked tables other c.apply-taken.result at (sym c.in-Some.ensures.asked) c.requires.tables c.in-Some.ensures.within.element told))
    c.put_row.ensures.put

pub returns-clause-tables : goal.returns-clause-tables
returns-clause-tables c =
    let plan = c.args.plan.now in
    let events = c.args.events.now in
    let event = c.index-events-place.result in
    let asked = c.in-Some.asked in
    let tables = c.args.tables.now.items in
    let at = slice_get_read events (length events) c.args.place event refl c.requires.place c.index-events-place.is in
    on_ok c.put_row.result
    (tables-next plan events c.args.place event asked tables c.apply-taken.new.tables.items at (sym c.in-Some.ensures.asked) c.requires.tables c.apply-taken.ensures.count
    (λ other. c.apply-taken.ensures.here other ∙ ap (after_asked (slice_index_or tables asked.element other)) c.command_by.ensures.command)
    c.apply-taken.ensures.others)
