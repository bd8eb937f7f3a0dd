use Rattle.sync_ql.proofs.QuietMoments.{IsSameOutput-quiet}
use Rattle.sync_ql.proofs.Staying.{same_output_until}
use Rattle.sync_ql.proofs.laws.quiet_law.Goals as goal

pub returns-clause-one : goal.returns-clause-one
returns-clause-one c = IsSameOutput-quiet

pub returns-clause-until : goal.returns-clause-until
returns-clause-until c = same_output_until
