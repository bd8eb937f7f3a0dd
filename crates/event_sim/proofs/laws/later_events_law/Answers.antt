use Rattle.std.proofs.Common.{sym, ◌∙◌}
use Rattle.event_times.proofs.Followed.{followed}
use Rattle.event_sim.specs.SimState.{first_after}
use Rattle.event_sim.proofs.LaterRows.{rows-later}
use Rattle.event_sim.proofs.laws.later_events_law.Goals as goal

pub returns-clause-appended : goal.returns-clause-appended
returns-clause-appended c = λ sim events more well behind late stands. record {
  net = c.later_events_law.ensures.appended sim.net events more sim.net.next well late stands.net;
  rows = stands.rows ∙ sym (rows-later sim.net.plan events more sim.watch (first_after sim.reached) sim.net.next
      (λ t after element k. c.order_law.ensures.later sim.net.plan events more t well after element k) behind late);
}

pub returns-clause-followed : goal.returns-clause-followed
returns-clause-followed c = followed
