use Rattle.inspection.proofs.Reasons.{eligible-verdict, verdict-words}
use Rattle.inspection.proofs.laws.eligible_law.Goals as goal

pub returns : goal.returns
returns c = record { exact = eligible-verdict; words = verdict-words }
