use Rattle.std.proofs.Common.{◌≡◌, List, [], false, ap}
use Rattle.agenda.specs.Marked.{Marked}
use Rattle.sync_topo.specs.declared.event.Event.{Event}
use Rattle.sync_net.specs.Standing.{IsOfPast}
use Rattle.sync_net.specs.Whole.{state_of}
use Rattle.sync_net.specs.private.Whole.{IsWhole}
use Rattle.sync_net.specs.private.Beginning.{IsBegun}
use Rattle.sync_net.proofs.NewNets.{begun-whole, begun-stands, if-ok}
use Rattle.sync_net.proofs.starting.new_parts.Goals as goal

pub returns-clause-whole : goal.returns-clause-whole
returns-clause-whole c =
    if-ok (IsBegun c.args.plan.now) (IsWhole c.args.plan.now) _ (begun-whole c.args.plan.now) c.begun.ensures

pub returns-clause-next : goal.returns-clause-next
returns-clause-next c =
    if-ok (IsBegun c.args.plan.now) (λ parts. parts.next ≡ 0) _ (λ parts begun. begun.next) c.begun.ensures

pub returns-clause-later_steps : goal.returns-clause-later_steps
returns-clause-later_steps c =
    if-ok (IsBegun c.args.plan.now) (λ parts. parts.later_steps ≡ 0) _ (λ parts begun. begun.later_steps) c.begun.ensures

pub returns-clause-evaluated : goal.returns-clause-evaluated
returns-clause-evaluated c =
    if-ok (IsBegun c.args.plan.now) (λ parts. parts.tellings.active.listed ≡ []) _
    (λ parts begun. ap (λ (marked : Marked). marked.listed) begun.active) c.begun.ensures

pub returns-clause-called : goal.returns-clause-called
returns-clause-called c =
    if-ok (IsBegun c.args.plan.now) (λ parts. parts.called.listed ≡ []) _
    (λ parts begun. ap (λ (marked : Marked). marked.listed) begun.called) c.begun.ensures

pub returns-clause-stands : goal.returns-clause-stands
returns-clause-stands c =
    if-ok (IsBegun c.args.plan.now) (λ parts. (events : List Event) → IsOfPast (state_of c.args.plan.now false parts) events 0) _
    (begun-stands c.args.plan.now) c.begun.ensures
