use Rattle.net_rules.proofs.FinalLaws.{pair-by_events, stays-by_events, bound-by_events}
use Rattle.net_rules.proofs.LosingLaws.{soon-by_events}
use Rattle.net_rules.proofs.timing.event_law.Goals as goal

pub returns-clause-pair : goal.returns-clause-pair
returns-clause-pair c = pair-by_events

pub returns-clause-stays : goal.returns-clause-stays
returns-clause-stays c = stays-by_events

pub returns-clause-bound : goal.returns-clause-bound
returns-clause-bound c = bound-by_events

pub returns-clause-soon : goal.returns-clause-soon
returns-clause-soon c = soon-by_events
