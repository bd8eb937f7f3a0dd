use Rattle.std.proofs.Common.{◌≡◌, ◌-◌, ℕ, suc, sym, subst, ap, ◌∙◌, arith}
use Rattle.sync_topo.specs.Topology.{Topology}
use Rattle.sync_topo.specs.Events.{IsEventList}
use Rattle.event_sim.specs.SimState.{first_after}
use Rattle.event_sim.proofs.Reached.{unwatched}
use Rattle.sync_sweep.proofs.sweeping.base_run.Goals as goal

pub returns-clause-base : goal.returns-clause-base
returns-clause-base c =
    let run = c.in_ok-sim.ensures.run in
    let came = unwatched c.args.plan.now c.args.common.now (c.args.from - 1) c.in_ok-sim.sim c.in_ok-sim.field-0-1 run in
    record {
      live = run.live;
      going = came.0;
      unwatched = run.watches;
      reached =
          let last : first_after c.in_ok-sim.sim.reached ≡ suc (c.args.from - 1) = ap first_after came.1 in
          omega (arith, last, c.if-from-eq0.false);
      stands = λ all before. run.alike all (record {
        ordered = subst (λ (p : Topology). IsEventList p all) run.of_plan before.ordered;
        here = λ t low high. before.here t (omega (arith, high, c.if-from-eq0.false));
      });
    }
