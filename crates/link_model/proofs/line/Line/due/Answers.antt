use Rattle.std.proofs.Common.{IfSome, sym, subst}
use Rattle.sync_ql.specs.Messages.{IsLineDue}
use Rattle.link_model.specs.Busy.{IsBusyAt}
use Rattle.link_model.specs.StandsFor.{StandsFor}
use Rattle.link_model.specs.Whole.{kept_in}
use Rattle.link_model.proofs.Arriving.{busy-now}
use Rattle.link_model.proofs.Dues.{due-now}
use Rattle.link_model.proofs.line.Line.due.Goals as goal

pub returns-clause-next : goal.returns-clause-next
unfolding StandsFor
returns-clause-next c =
    rw (← c.self.view_is)
    (λ past stands. subst (IsLineDue c.self.inside.delay past) (sym c.due.ensures) (due-now c.self.inside.delay c.self.inside.turn (kept_in c.self.inside) past c.self.invariant stands))

pub returns-clause-busy : goal.returns-clause-busy
unfolding StandsFor
returns-clause-busy c =
    rw (← c.self.view_is)
    (λ past stands. subst (λ due. IfSome due (IsBusyAt c.self.inside.delay past)) (sym c.due.ensures) (busy-now c.self.inside.delay c.self.inside.turn (kept_in c.self.inside) past c.self.invariant stands))
