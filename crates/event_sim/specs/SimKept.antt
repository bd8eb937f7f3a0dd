-- What contracts see of a simulator, and what is true of each.
use Rattle.event_sim.specs.declared.sim.Sim.TheInside.{Inside}
use Rattle.event_sim.specs.SimState.{SimState}

abbrev pub sim_state : Inside → SimState
sim_state sim = record {
  net = sim.run.net;
  watch = sim.run.watch;
  changes = sim.run.changes.items;
  reached = sim.reached;
  spent = sim.spent;
  stopped = sim.stopped;
}
