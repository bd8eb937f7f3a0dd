use Rattle.sync_net.specs.Standing.{StandsFor}
use Rattle.std.proofs.Common.{◌+◌, ap}
use Rattle.sync_net.proofs.NetSeen.{seen_stands, seen_active, seen_ordered, seen_short, seen_short_speaking}
use Rattle.sync_net.proofs.net.Net.step.Goals as goal

pub returns-in-Ok-clause-stands : goal.returns-in-Ok-clause-stands
unfolding StandsFor
returns-in-Ok-clause-stands g c = λ all n here is.
    seen_stands c.args.self.now c.self.inside.plan.now c.self.inside.spent c.self.inside.parts c.self.view_is c.requires.live c.self.invariant
    c.args.now c.args.events.now c.step_parts.new.parts c.requires.in_time c.in-Ok.ensures.stepped all n here is

pub returns-in-Ok-clause-active : goal.returns-in-Ok-clause-active
unfolding StandsFor
returns-in-Ok-clause-active g c = λ all n here is.
    seen_active c.args.self.now c.self.inside.plan.now c.self.inside.spent c.self.inside.parts c.self.view_is c.requires.live c.self.invariant
    c.args.now c.args.events.now c.step_parts.new.parts c.requires.in_time c.in-Ok.ensures.stepped c.in-Ok.ensures.evaluated all n here is

pub returns-in-Ok-clause-ordered : goal.returns-in-Ok-clause-ordered
unfolding StandsFor returns-in-Ok-clause-stands
returns-in-Ok-clause-ordered g c = λ all others n here is alike.
    seen_ordered c.args.self.now c.self.inside.plan.now c.self.inside.spent c.self.inside.parts c.self.view_is c.requires.live c.self.invariant
    _ all others (c.args.now + 1) (ap (λ s. s.plan) c.self.view_is) alike (returns-in-Ok-clause-stands g c all n here is)

pub returns-in-Ok-clause-short : goal.returns-in-Ok-clause-short
unfolding StandsFor returns-in-Ok-clause-stands
returns-in-Ok-clause-short g c = λ all n line back from here is facing faced.
    seen_short c.args.self.now c.self.inside.plan.now c.self.inside.spent c.self.inside.parts c.self.view_is c.requires.live c.self.invariant
    _ all c.args.now line back from (ap (λ s. s.plan) c.self.view_is) (returns-in-Ok-clause-stands g c all n here is) facing faced

pub returns-in-Ok-clause-short_speaking : goal.returns-in-Ok-clause-short_speaking
unfolding StandsFor returns-in-Ok-clause-stands
returns-in-Ok-clause-short_speaking g c = λ all n line back from here is facing faced speaks.
    seen_short_speaking c.args.self.now c.self.inside.plan.now c.self.inside.spent c.self.inside.parts c.self.view_is c.requires.live c.self.invariant
    _ all c.args.now line back from (ap (λ s. s.plan) c.self.view_is) (returns-in-Ok-clause-stands g c all n here is) facing faced speaks
