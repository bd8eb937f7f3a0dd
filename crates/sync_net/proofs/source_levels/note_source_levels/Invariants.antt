use Rattle.std.proofs.Common.{drop}
use Rattle.sync_net.specs.private.Noting.{AreOfOption}
use Rattle.sync_net.specs.private.SourceLevels.{AreSourcesSettled, all_level_words}
use Rattle.net_words.specs.private.Tellings.{AreToldSoFar}
use Rattle.sync_net.proofs.source_levels.note_source_levels.Given as goal

-- what is left of the events is still to be settled and told
abbrev pub invariant-loop-event : goal.invariant-loop-event
invariant-loop-event l = record {
  told : AreToldSoFar (all_level_words l.plan l.fn.sources l.events) (all_level_words l.plan l.fn.sources (drop l.event-index l.events)) l.fn.tellings l.tellings;
  settled : AreSourcesSettled l.events (drop l.event-index l.events) l.fn.sources l.sources;
  of_option : AreOfOption l.plan.option l.sources;
}
