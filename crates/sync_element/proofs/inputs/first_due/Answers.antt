use Rattle.std.proofs.Common.{◌≡◌, ◌+◌, ℕ, List, length, ap, sym, ◌∙◌, arith, subst}
use Rattle.std.proofs.lemmas.List.{get_or_default}
use Rattle.agenda.specs.DueTimes.{due_in}
use Rattle.sync_element.specs.declared.watched.Watched.{Watched}
use Rattle.sync_element.specs.Kept.{dues_of, unused, watched_in}
use Rattle.sync_element.specs.private.FirstTime.{IsFirstSoFar}
use Rattle.sync_element.proofs.FirstTimes.{due_there, one_more}
use Rattle.sync_element.proofs.inputs.first_due.Goals as goal

pub loop-input-preserved : goal.loop-input-preserved
loop-input-preserved c =
    let slice : List Watched = c.as_slice-input-items.result.now in
    let watched : List Watched = c.args.inputs.now.watched.items in
    let n : ℕ = c.loop-input.input-index in
    let same : slice ≡ watched = c.as_slice-input-items.ensures in
    let read : watched_in slice n ≡ c.input-item.result = get_or_default slice n unused c.input-item.result c.loop-input-test.true ∙ sym c.input-item.is in
    let here : due_in (dues_of watched) n ≡ c.due.result =
    due_there watched n (omega (arith, c.loop-input-test.true, ap length same))
    ∙ ap (λ list. (watched_in list n).monitor.due) (sym same) ∙ ap (λ w. w.monitor.due) read ∙ sym c.due.ensures.value in
    subst (λ found. IsFirstSoFar (dues_of watched) (n + 1) found) (sym c.earlier-first.ensures)
    (one_more (dues_of watched) n c.loop-input.first c.due.result here c.loop-input.invariant)
