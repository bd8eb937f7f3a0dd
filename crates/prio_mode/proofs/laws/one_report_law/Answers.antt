use Rattle.prio_mode.proofs.OneReport.{one_priority_report}
use Rattle.prio_mode.proofs.laws.one_report_law.Goals as goal

pub returns : goal.returns
returns c = one_priority_report
