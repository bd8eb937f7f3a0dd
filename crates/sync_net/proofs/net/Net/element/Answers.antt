use Rattle.sync_net.specs.Standing.{StandsFor}
use Rattle.sync_net.proofs.NetSeen.{element-read}
use Rattle.sync_net.proofs.net.Net.element.Goals as goal

pub returns-clause-stands : goal.returns-clause-stands
unfolding StandsFor
returns-clause-stands c = λ all n is.
    rw c.get.ensures
    (element-read c.args.self.now c.self.inside.plan.now c.self.inside.spent c.self.inside.parts c.args.element c.index.result.now c.self.view_is c.index.ensures c.requires.element all n is)
