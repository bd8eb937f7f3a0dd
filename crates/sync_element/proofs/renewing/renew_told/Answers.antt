use Rattle.std.proofs.Common.{◌≡◌, ◌∷◌, ◌+◌, suc, [], drop, ap, sym, ◌∙◌, subst, drop-cons, add-one}
use Rattle.std.proofs.lemmas.List.{drop_all}
use Rattle.sync_ql.specs.declared.rules.InputEvent.{InputEvent}
use Rattle.sync_element.specs.private.Renewing.{Renewal, AreTaken}
use Rattle.sync_element.specs.Whole.{inputs_kept}
use Rattle.sync_element.proofs.Renewed.{taken_more}
use Rattle.sync_element.proofs.renewing.renew_told.Goals as goal

pub loop-event-preserved : goal.loop-event-preserved
loop-event-preserved c =
    let at : Renewal = record { now = c.args.now; switches = c.args.commands.now; floor = c.args.config.now.floor } in
    let events = c.args.told.now in
    let k = c.loop-event.event-index in
    let x = inputs_kept c.loop-event.inputs in
    let x_then = inputs_kept c.renew_if_touched.new.inputs in
    let one = c.renew_if_touched.ensures in
    let event : InputEvent = c.event-item.result in
    let read : drop k events ≡ event ∷ drop (k + 1) events = rw add-one (drop-cons events k event c.loop-event-test.true ∙ ap (λ e. e ∷ drop (suc k) events) (sym c.event-item.is)) in
    record {
      can = one.can;
      count = one.count ∙ c.loop-event.invariant.count;
      taken = λ told before all.
          let taken : AreTaken at told before events (event ∷ drop (k + 1) events) x = subst (λ left. AreTaken at told before events left x) read (c.loop-event.invariant.taken told before all) in
          taken_more at told before events (drop (k + 1) events) event x x_then taken (one.kept told before taken.renewed) (one.touched told before taken.renewed);
    }

pub returns-clause-taken : goal.returns-clause-taken
returns-clause-taken c told before all =
    let at : Renewal = record { now = c.args.now; switches = c.args.commands.now; floor = c.args.config.now.floor } in
    let none : drop c.loop-event.event-index c.args.told.now ≡ [] = drop_all c.loop-event.event-index c.args.told.now c.loop-event-test.false in
    subst (λ left. AreTaken at told before c.args.told.now left (inputs_kept c.loop-event.inputs)) none (c.loop-event.invariant.taken told before all)
