use Rattle.std.proofs.Common.{sym, ◌∙◌}
use Rattle.sync_topo.specs.Lines.{element_of}
use Rattle.sync_topo.proofs.InputPlaces.{not-placed}
use Rattle.sync_topo.proofs.plan.Plan.place_of.Goals as goal

pub returns-then-not-nominated-clause-place : goal.returns-then-not-nominated-clause-place
returns-then-not-nominated-clause-place c =
    sym (not-placed c.args.self.now (element_of c.args.self.now c.args.input) c.args.input (sym c.nominated.ensures.nominated ∙ c.if-not-nominated.true))
