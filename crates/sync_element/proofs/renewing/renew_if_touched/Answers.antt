use Rattle.std.proofs.Common.{◌≡◌, ◌<◌, ℕ, length, Option, None, Some, true, ap, sym, ◌∙◌, arith, subst, length-set}
use Rattle.std.proofs.lemmas.Bool.Decides.{nat_tests}
use Rattle.std.proofs.lemmas.Option.{same_Some}
use Rattle.sync_ql.specs.declared.rules.Cmd.TheVariants.{Lockout, Unlock, Forced, Manual, Clear}
use Rattle.sync_ql.specs.declared.rules.InputEvent.{InputEvent}
use Rattle.sync_ql.specs.declared.rules.InputEvent.TheVariants.{Signal, Heard, ClearWtr, Command}
use Rattle.sync_element.specs.private.Telling.{Fits}
use Rattle.sync_element.specs.private.Renewing.{Renewal, touched_by, ends_at, IsDoneAt}
use Rattle.sync_element.specs.Whole.{inputs_kept}
use Rattle.sync_element.proofs.Renewed.{can_one, kept_one, done_here}
use Rattle.sync_element.proofs.renewing.renew_if_touched.Goals as goal

fits_place : (n : ℕ) (event : InputEvent) (i : ℕ) → Fits n event → touched_by event ≡ Some i → i < n
fits_place n (Signal k up) i fits is = let same : k ≡ i = same_Some k i is in omega arith
fits_place n (Heard k level) i fits is = let same : k ≡ i = same_Some k i is in omega arith
fits_place n (ClearWtr k) i fits is = let same : k ≡ i = same_Some k i is in omega arith
fits_place n (Command (Lockout k)) i fits is = let same : k ≡ i = same_Some k i is in omega arith
fits_place n (Command (Unlock k)) i fits is = let same : k ≡ i = same_Some k i is in omega arith
fits_place n (Command (Forced k)) i fits is = absurd (cc)
fits_place n (Command (Manual k)) i fits is = absurd (cc)
fits_place n (Command Clear) i fits is = absurd (cc)

same_place : (i k : ℕ) (o : Option ℕ) → o ≡ Some i → ends_at k o ≡ true → i ≡ k
same_place i k None is touched = absurd (cc)
same_place i k (Some j) is touched = let same : j ≡ i = same_Some j i is in grind (arith, nat_tests)

pub returns-in-Some : goal.returns-in-Some
returns-in-Some c =
    let at : Renewal = record { now = c.args.now; switches = c.args.commands.now; floor = c.args.config.now.floor } in
    let option = c.args.config.now.own.option in
    let x = inputs_kept c.args.inputs.now in
    let x_then = inputs_kept c.renew.new.inputs in
    let i = c.in-Some.i in
    let is : touched_by c.args.event ≡ Some i = sym c.touched_by.ensures ∙ c.in-Some.is in
    let within : i < length x.watched = fits_place (length x.watched) c.args.event i c.requires.fits is in
    record {
      can = can_one at option i x x_then c.requires.can within c.renew.ensures;
      count = ap length c.renew.ensures.watched ∙ length-set x.watched i c.renew.ensures.input;
      kept = λ told before all. kept_one at option told before i x x_then c.requires.can all (omega (arith, within, all.watched_length)) c.renew.ensures;
      touched = λ told before all k inside touched.
          subst (λ j. IsDoneAt at told before j x_then) (same_place i k (touched_by c.args.event) is touched)
          (done_here at option told before i x x_then c.requires.can all (omega (arith, within, all.watched_length)) c.renew.ensures);
    }
