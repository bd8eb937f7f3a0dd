use Rattle.std.proofs.Common.{drop}
use Rattle.sync_net.specs.private.Noting.{AreOfOption, AreSourcesNoted}
use Rattle.sync_net.proofs.outside.note_sources.Given as goal

-- what is left of the events is still to be noted
abbrev pub invariant-loop-event : goal.invariant-loop-event
invariant-loop-event l = record {
  noted : AreSourcesNoted l.events (drop l.event-index l.events) l.fn.sources l.sources;
  of_option : AreOfOption l.plan.option l.sources;
}
