use Rattle.std.proofs.Common.{◌≡◌, ◌∙◌, ap, set}
use Rattle.std.specs.Prelude.{Result, Ok, Err, OnErr}
use Rattle.std.proofs.lemmas.List.{set-get_or}
use Rattle.net_words.proofs.tellings.Tellings.tell.Goals as goal

-- what holds anyhow
on_err : {T E P : Type 0} (result : Result T E) → P → OnErr result P
on_err (Ok value) holds = tt
on_err (Err error) holds = holds

-- the list that was there is put back
pub returns-in_err-push-clause-unchanged : goal.returns-in_err-push-clause-unchanged
returns-in_err-push-clause-unchanged c =
    let items = c.args.self.now.changes.items in
    let same : set items c.args.element c.push.new.self ≡ items =
    ap (set items c.args.element) (c.in_err-push.ensures.err ∙ c.index_mut.ensures.value) ∙ set-get_or items c.args.element c.index_mut.result.now in
    on_err c.from_residual.result same
