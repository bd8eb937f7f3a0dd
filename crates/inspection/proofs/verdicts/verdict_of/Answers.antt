use Rattle.std.proofs.Common.{ap, ◌∙◌}
use Rattle.sync_ql.specs.Told.{moments_until}
use Rattle.inspection.specs.Verdict.{is_place, verdict_of}
use Rattle.inspection.proofs.Accessors.{same-option, verdict-seen}
use Rattle.inspection.proofs.verdicts.verdict_of.Goals as goal

pub first_reason-requires : goal.first_reason-requires
first_reason-requires c = record { options = same-option c.args.element.now.settings.own.option c.floor.result c.level_of.result c.floor.ensures.option c.level_of.ensures.option }

pub returns : goal.returns
returns c = record {
  verdict = λ past n stands in_time later.
      let locked = c.locked.result in
      let floor = c.floor.result in
      let level = c.level_of.result in
      c.first_reason.ensures
      ∙ ap (λ taken. verdict_of taken locked c.is_failed_in.result floor level) c.is_place.ensures
      ∙ ap (λ failed. verdict_of (is_place c.selected.result c.args.place) locked failed floor level) c.is_failed_in.ensures
      ∙ verdict-seen c.args.element.now.settings (moments_until c.args.element.now.settings n past) c.args.place c.selected.result locked c.cond.result floor level
      (c.selected.ensures.selected past n stands in_time) (c.locked.ensures.locked past n stands in_time) (c.cond.ensures.kind past n stands in_time) c.floor.ensures.value (c.level_of.ensures.level past n stands in_time later);
}
