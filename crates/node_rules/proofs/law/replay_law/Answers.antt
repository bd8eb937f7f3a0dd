use Rattle.node_rules.proofs.ReplayLaws.{replayed}
use Rattle.node_rules.proofs.law.replay_law.Goals as goal

pub returns : goal.returns
returns c = λ plan events element until rows t well is. replayed plan events element until rows well is t
