use Rattle.sync_sweep.proofs.OneStudy.{one-study}
use Rattle.sync_sweep.proofs.laws.one_study_law.Goals as goal

pub returns : goal.returns
returns c = record { one = one-study c.trace_law.ensures.one }
