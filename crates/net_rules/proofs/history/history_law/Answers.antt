use Rattle.net_rules.proofs.PlanLaws.{IsDelayed-well, sender-within}
use Rattle.net_rules.proofs.HistoryLaws.{out_at-sent, only_one, until_same}
use Rattle.net_rules.proofs.PassingOn.{passed-on}
use Rattle.net_rules.proofs.history.history_law.Goals as goal

pub returns-clause-obeys : goal.returns-clause-obeys
returns-clause-obeys c = λ plan signals well line t within. out_at-sent plan (IsDelayed-well plan well) signals line t

pub returns-clause-one : goal.returns-clause-one
returns-clause-one c = λ plan signals out well. only_one plan (IsDelayed-well plan well) signals out

pub returns-clause-looks_back : goal.returns-clause-looks_back
returns-clause-looks_back c = λ plan signals others t well.
    until_same plan (IsDelayed-well plan well) (sender-within plan well) signals others t

pub returns-clause-passed_on : goal.returns-clause-passed_on
returns-clause-passed_on c = passed-on
