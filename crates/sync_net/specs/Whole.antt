-- How a network is seen, and what is true of every one that isn't spent.
use Rattle.std.specs.Prelude.{Bool}
use Rattle.sync_topo.specs.Topology.{Topology}
use Rattle.sync_net.specs.declared.parts.NetParts.{NetParts}
use Rattle.sync_net.specs.Kept.{Kept}
use Rattle.sync_net.specs.NetState.{NetState}

abbrev pub kept_of : NetParts → Kept
kept_of parts = record { lines = parts.signals.items; sources = parts.sources.items; heards = parts.heards.items }

abbrev pub state_of : Topology → Bool → NetParts → NetState
state_of plan spent parts = record {
  plan = plan;
  spent = spent;
  next = parts.next;
  later_steps = parts.later_steps;
  elements = parts.elements.items;
  lines = parts.lines.items;
  evaluated = parts.tellings.active.listed;
  called = parts.called.listed;
  kept = kept_of parts;
}
