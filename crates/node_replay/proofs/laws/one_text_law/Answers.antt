use Rattle.node_replay.proofs.OneText.{one-text, until-exactly, stopped-exactly}
use Rattle.node_replay.proofs.laws.one_text_law.Goals as goal

pub returns-clause-one : goal.returns-clause-one
returns-clause-one c = one-text

pub returns-clause-whole : goal.returns-clause-whole
returns-clause-whole c = until-exactly

pub returns-clause-stopped : goal.returns-clause-stopped
returns-clause-stopped c = stopped-exactly
