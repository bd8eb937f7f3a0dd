use Rattle.std.proofs.Common.{ap, ◌∙◌}
use Rattle.sync_net.specs.Standing.{StandsFor}
use Rattle.sync_net.proofs.NetSeen.{line-read, seen_line}
use Rattle.sync_net.proofs.net.Net.line.Goals as goal

pub returns-clause-stands : goal.returns-clause-stands
unfolding StandsFor
returns-clause-stands c = λ all n is.
    rw c.get.ensures
    (line-read c.args.self.now c.self.inside.plan.now c.self.inside.spent c.self.inside.parts c.args.line.0 c.index.result.now c.in-Some.kept c.self.view_is c.index.ensures c.in-Some.is
    (c.self.invariant (ap (λ s. s.spent) c.self.view_is ∙ c.requires.live)).lines_count c.requires.nominated all n is)

pub returns-clause-turn : goal.returns-clause-turn
returns-clause-turn c =
    rw c.get.ensures
    ((seen_line c.args.self.now c.self.inside.plan.now c.self.inside.spent c.self.inside.parts c.self.view_is c.requires.live c.self.invariant
    c.args.line.0 c.index.result.now c.in-Some.kept c.index.ensures c.in-Some.is c.requires.nominated).0)

pub returns-clause-in_time : goal.returns-clause-in_time
returns-clause-in_time c =
    rw c.get.ensures
    ((seen_line c.args.self.now c.self.inside.plan.now c.self.inside.spent c.self.inside.parts c.self.view_is c.requires.live c.self.invariant
    c.args.line.0 c.index.result.now c.in-Some.kept c.index.ensures c.in-Some.is c.requires.nominated).1)
