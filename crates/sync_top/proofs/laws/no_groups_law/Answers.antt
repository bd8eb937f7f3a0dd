use Rattle.sync_top.proofs.ProtectionAnswers.{no-groups}
use Rattle.sync_top.proofs.laws.no_groups_law.Goals as goal

pub returns : goal.returns
returns c = record { alike = no-groups }
