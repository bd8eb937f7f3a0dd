use Rattle.std.proofs.Common.{◌∙◌, refl}
use Rattle.sync_net.proofs.Assembling.{can_tell}
use Rattle.sync_net.proofs.Finishing.{outs_within, can_step, settings_stay, can_say_called}
use Rattle.sync_net.proofs.Ending.{net_step, whole_then, evaluated_for, called_alone, called_for, told_alone}
use Rattle.sync_net.proofs.stepping.step_parts.Goals as goal

pub hear-requires-clause-can_tell : goal.hear-requires-clause-can_tell
hear-requires-clause-can_tell g c = λ line is.
    let second = c.in_ok-take_in.ensures in
    can_tell c.args.plan.now c.args.now c.args.events.now c.args.parts.now c.call_due.new.parts c.take_in.new.parts c.requires.whole c.requires.in_time c.call_due.ensures second
    line (second.listed.listed line ∙ is)

pub evaluate-requires-clause-lines : goal.evaluate-requires-clause-lines
evaluate-requires-clause-lines g c = λ element.
    outs_within c.args.plan.now c.args.now c.args.events.now c.args.parts.now c.call_due.new.parts c.take_in.new.parts c.hear.new.parts c.requires.whole c.requires.in_time
    c.call_due.ensures c.in_ok-take_in.ensures c.in_ok-hear.ensures element

pub evaluate-requires-clause-can_step : goal.evaluate-requires-clause-can_step
evaluate-requires-clause-can_step g c = λ element other within.
    can_step c.args.plan.now c.args.now c.args.events.now c.args.parts.now c.call_due.new.parts c.take_in.new.parts c.hear.new.parts c.requires.whole c.requires.in_time
    c.call_due.ensures (c.in_ok-take_in.ensures) (c.in_ok-hear.ensures) element other within

pub send-requires-clause-settings : goal.send-requires-clause-settings
send-requires-clause-settings g c = λ element other within.
    settings_stay c.args.plan.now c.args.now c.args.events.now c.args.parts.now c.call_due.new.parts c.take_in.new.parts c.hear.new.parts c.evaluate.new.parts c.requires.whole c.requires.in_time
    c.call_due.ensures (c.in_ok-take_in.ensures) (c.in_ok-hear.ensures) c.in_ok-evaluate.ensures.evaluated element other within

pub send-requires-clause-can_say : goal.send-requires-clause-can_say
send-requires-clause-can_say g c = λ line is.
    let fourth = c.in_ok-evaluate.ensures.evaluated in
    can_say_called c.args.plan.now c.args.now c.args.events.now c.args.parts.now c.call_due.new.parts c.take_in.new.parts c.hear.new.parts c.evaluate.new.parts c.requires.whole c.requires.in_time
    c.call_due.ensures (c.in_ok-take_in.ensures) (c.in_ok-hear.ensures) fourth line (fourth.called_listed.listed line ∙ is)

pub returns-clause-whole : goal.returns-clause-whole
returns-clause-whole g c =
    whole_then c.args.plan.now c.args.now c.args.events.now c.args.parts.now c.call_due.new.parts c.take_in.new.parts c.hear.new.parts c.evaluate.new.parts c.send.new.parts _ c.requires.whole c.requires.in_time
    c.call_due.ensures (c.in_ok-take_in.ensures) (c.in_ok-hear.ensures) c.in_ok-evaluate.ensures.evaluated (c.in_ok-send.ensures)
    (record {
      next = refl;
      later_steps = c.steps_after-parts.ensures;
      elements = refl;
      lines = refl;
      signals = refl;
      sources = refl;
      heards = refl;
      dues = refl;
      tellings = refl;
      called = refl;
    })
    c.requires.in_range

pub returns-clause-stepped : goal.returns-clause-stepped
returns-clause-stepped g c =
    net_step c.args.plan.now c.args.now c.args.events.now c.args.parts.now c.call_due.new.parts c.take_in.new.parts c.hear.new.parts c.evaluate.new.parts c.send.new.parts _ c.requires.whole c.requires.in_time
    c.call_due.ensures (c.in_ok-take_in.ensures) (c.in_ok-hear.ensures) c.in_ok-evaluate.ensures.evaluated (c.in_ok-send.ensures)
    (record {
      next = refl;
      later_steps = c.steps_after-parts.ensures;
      elements = refl;
      lines = refl;
      signals = refl;
      sources = refl;
      heards = refl;
      dues = refl;
      tellings = refl;
      called = refl;
    })

pub returns-clause-evaluated : goal.returns-clause-evaluated
returns-clause-evaluated g c =
    evaluated_for c.args.plan.now c.args.now c.args.events.now c.args.parts.now c.call_due.new.parts c.take_in.new.parts c.hear.new.parts c.evaluate.new.parts c.send.new.parts _ c.requires.whole c.requires.in_time
    c.call_due.ensures (c.in_ok-take_in.ensures) (c.in_ok-hear.ensures) c.in_ok-evaluate.ensures.evaluated (c.in_ok-send.ensures)
    (record {
      next = refl;
      later_steps = c.steps_after-parts.ensures;
      elements = refl;
      lines = refl;
      signals = refl;
      sources = refl;
      heards = refl;
      dues = refl;
      tellings = refl;
      called = refl;
    })

pub returns-clause-called : goal.returns-clause-called
returns-clause-called g c =
    called_alone c.args.plan.now c.args.now c.args.events.now c.args.parts.now c.call_due.new.parts c.take_in.new.parts c.hear.new.parts c.evaluate.new.parts c.send.new.parts _ c.requires.whole c.requires.in_time
    c.call_due.ensures (c.in_ok-take_in.ensures) (c.in_ok-hear.ensures) c.in_ok-evaluate.ensures.evaluated (c.in_ok-send.ensures)
    (record {
      next = refl;
      later_steps = c.steps_after-parts.ensures;
      elements = refl;
      lines = refl;
      signals = refl;
      sources = refl;
      heards = refl;
      dues = refl;
      tellings = refl;
      called = refl;
    })

pub returns-clause-called_only : goal.returns-clause-called_only
returns-clause-called_only g c =
    called_for c.args.plan.now c.args.now c.args.events.now c.args.parts.now c.call_due.new.parts c.take_in.new.parts c.hear.new.parts c.evaluate.new.parts c.send.new.parts _ c.requires.whole c.requires.in_time
    c.call_due.ensures (c.in_ok-take_in.ensures) (c.in_ok-hear.ensures) c.in_ok-evaluate.ensures.evaluated (c.in_ok-send.ensures)
    (record {
      next = refl;
      later_steps = c.steps_after-parts.ensures;
      elements = refl;
      lines = refl;
      signals = refl;
      sources = refl;
      heards = refl;
      dues = refl;
      tellings = refl;
      called = refl;
    })

pub returns-clause-told : goal.returns-clause-told
returns-clause-told g c =
    told_alone c.args.plan.now c.args.now c.args.events.now c.args.parts.now c.call_due.new.parts c.take_in.new.parts c.hear.new.parts c.evaluate.new.parts c.send.new.parts _ c.requires.whole c.requires.in_time
    c.call_due.ensures (c.in_ok-take_in.ensures) (c.in_ok-hear.ensures) c.in_ok-evaluate.ensures.evaluated (c.in_ok-send.ensures)
    (record {
      next = refl;
      later_steps = c.steps_after-parts.ensures;
      elements = refl;
      lines = refl;
      signals = refl;
      sources = refl;
      heards = refl;
      dues = refl;
      tellings = refl;
      called = refl;
    })
