use Rattle.sync_sweep.proofs.OneSweep.{one-sweep}
use Rattle.sync_sweep.proofs.laws.one_sweep_law.Goals as goal

pub returns : goal.returns
returns c = record { one = one-sweep }
