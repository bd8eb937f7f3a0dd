use Rattle.sync_net.specs.Standing.{StandsFor}
use Rattle.sync_net.proofs.NetSeen.{seen_until, seen_due, seen_later, seen_gap, seen_settled, seen_busy}
use Rattle.sync_net.proofs.net.Net.due.Goals as goal

pub returns-clause-least : goal.returns-clause-least
returns-clause-least c = seen_until c.args.self.now c.self.inside.plan.now c.self.inside.spent c.self.inside.parts c.self.view_is c.requires.live c.self.invariant c.first_time.result c.first_time.ensures

pub returns-clause-some : goal.returns-clause-some
returns-clause-some c = seen_due c.args.self.now c.self.inside.plan.now c.self.inside.spent c.self.inside.parts c.self.view_is c.requires.live c.self.invariant c.first_time.result c.first_time.ensures

pub returns-clause-later : goal.returns-clause-later
returns-clause-later c = seen_later c.args.self.now c.self.inside.plan.now c.self.inside.spent c.self.inside.parts c.self.view_is c.requires.live c.self.invariant c.first_time.result c.first_time.ensures

pub returns-clause-gap : goal.returns-clause-gap
unfolding StandsFor
returns-clause-gap c = λ all m n is early begun none until.
    seen_gap c.args.self.now c.self.inside.plan.now c.self.inside.spent c.self.inside.parts c.self.view_is c.requires.live c.self.invariant c.first_time.result c.first_time.ensures all m n is early begun none until

pub returns-clause-busy : goal.returns-clause-busy
unfolding StandsFor
returns-clause-busy c = seen_busy c.args.self.now c.self.inside.plan.now c.self.inside.spent c.self.inside.parts c.self.view_is c.requires.live c.self.invariant c.first_time.result c.first_time.ensures

pub returns-clause-settled : goal.returns-clause-settled
unfolding StandsFor
returns-clause-settled c = λ none begun all is.
    seen_settled c.args.self.now c.self.inside.plan.now c.self.inside.spent c.self.inside.parts c.self.view_is c.requires.live c.self.invariant c.first_time.result c.first_time.ensures none begun all is
