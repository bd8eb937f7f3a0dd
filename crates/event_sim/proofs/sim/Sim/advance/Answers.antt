use Rattle.std.proofs.Common.{◌≡◌, ℕ, false, ap, sym, subst, ◌∙◌}
use Rattle.event_sim.specs.SimState.{SimState, first_after}
use Rattle.event_times.specs.EventTimes.{AreTold}
use Rattle.event_sim.specs.Standing.{watched_rows}
use Rattle.event_sim.proofs.LaterRows.{last-fit}
use Rattle.event_sim.proofs.sim.Sim.advance.Goals as goal

pub returns-in-Ok-Stopped-clause-last_fit : goal.returns-in-Ok-Stopped-clause-last_fit
returns-in-Ok-Stopped-clause-last_fit g c =
    let live : c.self.inside.spent ≡ false = ap (λ (sim : SimState). sim.spent) c.self.view_is ∙ c.requires.live in
    let going : c.self.inside.stopped ≡ false = ap (λ (sim : SimState). sim.stopped) c.self.view_is ∙ c.requires.going in
    let at : c.self.inside.run.net.next ≡ first_after c.self.inside.reached = c.self.invariant.reached live going in
    rw (← c.self.view_is) (λ all told stands.
    last-fit c.self.inside.run.net.plan all c.in-Ok-Stopped.t c.args.until _ _ _
    c.in-Ok-Stopped.ensures.kept.plan
    ((rw c.in-Ok-Stopped.field-0-is at c.in-Ok-Stopped.ensures.cut) all
    (subst (λ (from : ℕ). AreTold c.self.inside.run.net.plan all from c.args.until c.args.events.now) (sym at) told)
    (record {
      stands = stands.net;
      rows = stands.rows ∙ ap (watched_rows c.self.inside.run.watch c.self.inside.run.net.plan all) (sym at);
    }))
    c.in-Ok-Stopped.ensures.few
    ((rw c.in-Ok-Stopped.field-0-is at c.in-Ok-Stopped.ensures.stopped).0))
