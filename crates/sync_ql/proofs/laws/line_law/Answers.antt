use Rattle.sync_ql.proofs.Delivered.{heard-delivered, heard-last, unheard-none, heard_at-head}
use Rattle.sync_ql.proofs.laws.line_law.Goals as goal

pub returns-clause-delay : goal.returns-clause-delay
returns-clause-delay c = heard-delivered

pub returns-clause-last : goal.returns-clause-last
returns-clause-last c = heard-last

pub returns-clause-lost : goal.returns-clause-lost
returns-clause-lost c = unheard-none

pub returns-clause-earlier : goal.returns-clause-earlier
returns-clause-earlier c = heard_at-head
