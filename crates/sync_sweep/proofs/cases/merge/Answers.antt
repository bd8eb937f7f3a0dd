use Rattle.std.proofs.Common.{◌≡◌, ◌++◌, [], ◌∷◌, ℕ, suc, add-one, refl, ap, sym, ◌∙◌, drop, arith}
use Rattle.std.proofs.Math.Seq.{drop-cons}
use Rattle.std.proofs.lemmas.List.{append_assoc, drop_all}
use Rattle.sync_sweep.specs.Cases.{merged}
use Rattle.sync_sweep.proofs.cases.merge.Goals as goal

pub loop-event-preserved : goal.loop-event-preserved
unfolding merged
loop-event-preserved c =
    let common = c.args.common.now in
    let i : ℕ = c.loop-event.event-index in
    let event = c.event-item.result in
    let split : drop i common ≡ event ∷ drop (suc i) common =
    drop-cons common i event c.loop-event-test.true ∙ ap (λ e. e ∷ drop (suc i) common) (sym c.event-item.is) in
    let left = c.in_ok-left.left.now in
    let rest = merged (drop (suc i) common) left in
    rw add-one
    (c.loop-event.invariant
    ∙ ap (λ more. c.loop-event.all ++ merged more c.loop-event.left.now) split
    ∙ c.in_ok-left.ensures event (merged (drop (suc i) common)) refl
    ∙ sym (append_assoc c.put_earlier.new.all (event ∷ []) rest)
    ∙ ap (λ all. all ++ rest) (sym c.in_ok-push.ensures.ok))

pub returns : goal.returns
unfolding merged
returns c =
    let common = c.args.common.now in
    let none : drop c.loop-event.event-index common ≡ [] = drop_all c.loop-event.event-index common (omega (arith, c.loop-event-test.false)) in
    c.in_ok-put_all.ensures
    ∙ ap (λ more. c.loop-event.all ++ merged more c.loop-event.left.now) (sym none)
    ∙ sym c.loop-event.invariant
