use Rattle.std.proofs.Common.{subst, ◌∙◌}
use Rattle.sync_ql.specs.Quiet.{IsElementDue}
use Rattle.net_words.specs.NewElements.{setting_of}
use Rattle.net_words.proofs.NewElements.{priorities-fit, firsts-fit, settings-are}
use Rattle.net_words.proofs.elements.new_element.Goals as goal

pub new-requires-clause-priorities : goal.new-requires-clause-priorities
new-requires-clause-priorities c =
    priorities-fit (setting_of c.args.chooses c.args.plan.now) c.args.plan.now c.args.number c.in_ok-inputs.inputs c.in_ok-inputs.ensures

pub new-requires-clause-first : goal.new-requires-clause-first
new-requires-clause-first c =
    firsts-fit c.args.chooses c.args.plan.now c.args.number c.element-planned.result.now.own c.in_ok-inputs.inputs c.element-planned.ensures.well_formed
    c.element-planned.ensures.fits.own_is_clock_level.of_option c.in_ok-inputs.ensures

pub returns : goal.returns
returns c = record {
  settings =
      c.in_ok-element.ensures.settings
      ∙ settings-are (setting_of c.args.chooses c.args.plan.now) c.args.plan.now c.args.number c.element-planned.result.now c.floor_by-floor.result c.in_ok-inputs.inputs
      c.element-planned.ensures.element c.floor_by-floor.ensures.floor c.in_ok-inputs.ensures;
  next = c.in_ok-element.ensures.next;
  due = c.in_ok-element.ensures.due;
  stands = c.in_ok-element.ensures.stands;
  changes = λ past stands. subst (IsElementDue c.in_ok-element.element.settings past) c.due-due.ensures.value (c.due-due.ensures.changes past stands);
}
