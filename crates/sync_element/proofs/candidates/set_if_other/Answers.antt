use Rattle.std.proofs.Common.{sym, ◌∙◌, ap, set}
use Rattle.std.proofs.lemmas.List.{set-get_or}
use Rattle.sync_element.proofs.candidates.set_if_other.Goals as goal

pub returns-then-is_same : goal.returns-then-is_same
returns-then-is_same c =
    let read = rw c.inputs.ensures at c.index-inputs-input.is in
    sym (ap (set c.args.table.now c.args.input) (sym (c.is_same.ensures c.if-is_same.true) ∙ read) ∙ set-get_or c.args.table.now c.args.input c.index-inputs-input.result)
