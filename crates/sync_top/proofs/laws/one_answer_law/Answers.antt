use Rattle.sync_top.proofs.OneAnswer.{one_status, one_text}
use Rattle.sync_top.proofs.laws.one_answer_law.Goals as goal

pub returns-clause-status : goal.returns-clause-status
returns-clause-status c = one_status c.one_report_law.ensures.one c.one_study_law.ensures.one

pub returns-clause-text : goal.returns-clause-text
returns-clause-text c = one_text c.one_report_law.ensures.one c.one_study_law.ensures.one
