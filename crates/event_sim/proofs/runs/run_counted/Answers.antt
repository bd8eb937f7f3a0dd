use Rattle.std.proofs.Common.{List, ◌∙◌}
use Rattle.sync_topo.specs.declared.event.Event.{Event}
use Rattle.event_sim.specs.SimState.{first_after}
use Rattle.event_times.specs.EventTimes.{AreTold}
use Rattle.event_sim.proofs.Reached.{came_to}
use Rattle.event_sim.proofs.runs.run_counted.Goals as goal

pub advance-requires-clause-events : goal.advance-requires-clause-events
advance-requires-clause-events g c =
    let n = c.in_ok-sim.ensures in
    rw (n.plan, n.reached) (c.events_until-told.ensures.within c.args.plan.now c.requires.events)

pub returns : goal.returns
returns g c =
    let e = c.in_ok-reach.ensures in
    let n = c.in_ok-sim.ensures in
    let events = c.args.events.now in
    let part = c.events_until-told.result.now in
    let cut = c.events_until-told.ensures.told c.args.plan.now c.requires.events in
    let told : (all : List Event) → AreTold c.args.plan.now all 0 c.args.until events
    → AreTold c.in_ok-sim.sim.net.plan all (first_after c.in_ok-sim.sim.reached) c.args.until part =
    λ all are. rw (n.plan, n.reached) (record { ordered = are.ordered; here = λ t low high. are.here t low high ∙ cut.here t low high }) in
    let own : AreTold c.in_ok-sim.sim.net.plan events (first_after c.in_ok-sim.sim.reached) c.args.until part = rw (n.plan, n.reached) cut in
    record {
      run = record {
        of_plan = e.plan ∙ n.plan;
        watches = e.watch ∙ n.watch;
        live = e.spent;
        few = e.few;
        stands = e.stands events own (n.stands events);
        alike = λ all are. e.stands all (told all are) (n.stands all);
        came = came_to c.args.plan.now events part c.args.watch c.args.until c.in_ok-sim.sim c.advance.new.self c.in_ok-reach.reach n.plan n.watch own (n.stands events)
            e.stopped e.until e.until_next e.stopped_at e.watched e.last_fit;
      };
    }
