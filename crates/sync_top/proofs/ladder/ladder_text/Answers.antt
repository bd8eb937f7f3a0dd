use Rattle.plan_gen.specs.Ladder.{ladder}
use Rattle.plan_gen.proofs.LadderPlan.{IsWellFormed-ladder}
use Rattle.sync_top.proofs.WrittenSizes.{plan-fits, still-short}
use Rattle.sync_top.proofs.ladder.ladder_text.Goals as goal

pub returns-clause-fits : goal.returns-clause-fits
returns-clause-fits c =
    still-short c.write_ladder.result _ _ (plan-fits (ladder c.args.elements) (IsWellFormed-ladder c.args.elements c.requires.least c.requires.greatest)) c.write_ladder.ensures.short
