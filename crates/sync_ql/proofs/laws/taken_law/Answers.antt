use Rattle.sync_ql.proofs.TakenInputs.{taken_may_be_taken}
use Rattle.sync_ql.proofs.laws.taken_law.Goals as goal

pub returns : goal.returns
returns c = taken_may_be_taken
