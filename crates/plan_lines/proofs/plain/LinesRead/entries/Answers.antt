use Rattle.std.proofs.Common.{refl, ◌≡◌, ◌<◌, suc, length, length-drop, drop, Option, Some, None, false, sym, subst, ◌∙◌, arith}
use Rattle.std.specs.Prelude.{is_some}
use Rattle.std.proofs.lemmas.Bool.{false≢true}
use Rattle.plan_lines.specs.declared.entry.Entry.{Entry}
use Rattle.toml.specs.Data.{no_items}
use Rattle.toml.specs.Parse.{val, items}
use Rattle.plan_lines.specs.private.Lines.{TakesValue, ReadsItems}
use Rattle.plan_lines.proofs.PlainItems.{entries_taken}
use Rattle.plan_lines.proofs.plain.LinesRead.entries.Goals as goal

is_none_by : (current : Option Entry) → is_some current ≡ false → current ≡ None
is_none_by None none = refl
is_none_by (Some made) none = absurd (false≢true (sym none))

pub returns-clause-read : goal.returns-clause-read
returns-clause-read c = λ doc follows.
    let s = c.args.s.now in
    let rest = c.in_ok-rest.rest.now in
    let old = c.args.self.now in
    let none : old.current ≡ None = is_none_by old.current (sym c.is_some.ensures ∙ c.if-is_some.false) in
    let shorter : length (drop 1 s) < length s = subst (λ t. length t < length s) c.skip.ensures.rest c.skip.ensures.shorter in
    let size : suc (length (drop 1 s)) ≡ length s = omega (arith, shorter, length-drop 1 s) in
    let reads : ReadsItems c.in_ok-kind.kind (items (val 79) (suc (length (drop 1 s))) no_items (drop 1 s)) rest old.rows c.add_items.new.rows
    = subst (λ t. ReadsItems c.in_ok-kind.kind (items (val 79) (suc (length t)) no_items t) rest old.rows c.add_items.new.rows) c.skip.ensures.rest c.in_ok-rest.ensures.read in
    subst (λ o. TakesValue (val 80 s) c.args.key.now doc rest (record { head = c.give.new.head; rows = c.add_items.new.rows; current = o })) (sym none)
    (entries_taken c.in_ok-kind.kind s c.args.key.now rest old c.give.new.head c.add_items.new.rows doc (rw c.requires refl) size c.in_ok-kind.ensures reads follows none
    (sym c.is_given.ensures ∙ c.if-is_given.false) c.give.ensures)
