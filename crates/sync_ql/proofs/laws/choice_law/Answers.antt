use Rattle.sync_ql.proofs.Choices.{choice-again}
use Rattle.sync_ql.proofs.SameChoice.{choice_eligible, choice_alike, standing_alike}
use Rattle.sync_ql.proofs.laws.choice_law.Goals as goal

pub returns-clause-eligible : goal.returns-clause-eligible
returns-clause-eligible c = choice_eligible

pub returns-clause-again : goal.returns-clause-again
returns-clause-again c = choice-again

pub returns-clause-alike : goal.returns-clause-alike
returns-clause-alike c = choice_alike

pub returns-clause-manual : goal.returns-clause-manual
returns-clause-manual c = standing_alike
