use Rattle.std.proofs.Common.{◌≡◌, sym, ap, subst, ◌∙◌, arith}
use Rattle.net_rules.specs.Settling.{IsRank, IsGreatest}
use Rattle.sync_topo.specs.Lines.{line_count}
use Rattle.sync_top.proofs.HighestRank.{highest, greatest-highest}
use Rattle.sync_top.proofs.trial.greatest_rank.Goals as goal

pub returns : goal.returns
returns c =
    let all : c.loop-number.number ≡ line_count c.args.plan.now = omega (arith, c.loop-number-test.false, c.loop-number.auto.number-end, c.lines-number-end.ensures.count) in
    let same : highest c.args.ranks.now (line_count c.args.plan.now) ≡ c.loop-number.greatest =
    ap (highest c.args.ranks.now) (sym all) ∙ sym c.loop-number.invariant in
    subst (IsGreatest (IsRank c.args.plan.now)) same (greatest-highest c.args.plan.now c.args.ranks.now c.requires.least)
