use Rattle.cycle_plan.proofs.Settling.{small, IsTopOf-from}
use Rattle.cycle_plan.proofs.ranking.Ranking.top.Goals as goal

pub top_of-requires-clause-small : goal.top_of-requires-clause-small
top_of-requires-clause-small c = small c.args.returns c.args.plan.now c.args.self.now.ranks c.inputs_of.ensures.well_formed c.requires.ranking

pub returns : goal.returns
returns c =
    IsTopOf-from c.args.returns c.args.plan.now c.args.self.now.ranks c.args.element c.top_of.result c.requires.ranking (rw (← c.inputs_of.ensures.inputs) c.top_of.ensures)
