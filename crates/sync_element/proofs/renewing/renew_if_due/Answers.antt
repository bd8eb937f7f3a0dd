use Rattle.std.proofs.Common.{arith}
use Rattle.sync_element.specs.private.Renewing.{Renewal}
use Rattle.sync_element.specs.Whole.{inputs_kept}
use Rattle.sync_element.proofs.Renewed.{can_one, kept_one}
use Rattle.sync_element.proofs.renewing.renew_if_due.Goals as goal

pub returns-then-ends_at-clause-can : goal.returns-then-ends_at-clause-can
returns-then-ends_at-clause-can c =
    let at : Renewal = record { now = c.args.now; switches = c.args.commands.now; floor = c.args.config.now.floor } in
    can_one at c.args.config.now.own.option c.args.i (inputs_kept c.args.inputs.now) (inputs_kept c.renew.new.inputs) c.requires.can c.requires.place c.renew.ensures

pub returns-then-ends_at-clause-kept : goal.returns-then-ends_at-clause-kept
returns-then-ends_at-clause-kept c = λ told before all.
    let at : Renewal = record { now = c.args.now; switches = c.args.commands.now; floor = c.args.config.now.floor } in
    kept_one at c.args.config.now.own.option told before c.args.i (inputs_kept c.args.inputs.now) (inputs_kept c.renew.new.inputs) c.requires.can all (omega (arith, c.requires.place, all.watched_length)) c.renew.ensures
