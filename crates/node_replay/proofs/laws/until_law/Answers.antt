use Rattle.node_replay.proofs.UntilLaws.{until-same}
use Rattle.node_replay.proofs.laws.until_law.Goals as goal

pub returns : goal.returns
returns c = until-same
