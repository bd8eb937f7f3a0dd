use Rattle.trace_report.proofs.OneReport.{one-report}
use Rattle.trace_report.proofs.laws.one_report_law.Goals as goal

pub returns : goal.returns
returns c = record { one = one-report c.trace_law.ensures.one }
