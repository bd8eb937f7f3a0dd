use Rattle.std.proofs.Common.{ap, ◌∙◌}
use Rattle.sync_net.proofs.SentLevels.{own-sent}
use Rattle.net_rules.proofs.OwnLevels.{own-option}
use Rattle.sync_net.proofs.sending.level_sent.Goals as goal

pub returns : goal.returns
returns c = record {
  option = c.level-level.ensures.option ∙ ap (λ s. s.own.option) c.requires.settings
      ∙ own-option c.args.plan.now _ c.from.ensures.well_formed (rw c.from.ensures.sender at c.from.ensures.within);
  sent = own-sent c.args.plan.now c.args.line.0 c.args.sender.now c.selected.result c.level-level.result c.requires.settings
      c.selected.ensures.selected c.level-level.ensures.level
      (rw (← c.from.ensures.sender, ← c.input_at-taken.ensures.input, ← c.is_way_back.ensures) c.if-is_way_back.false);
}
