use Rattle.reach_rules.proofs.ProtectionLaws.{served-level, served-reached, not-reached, closed-served, gap-shows, protected-holds, one-holds, with-holds}
use Rattle.reach_rules.proofs.protecting.protection_law.Goals as goal

pub returns-clause-served : goal.returns-clause-served
returns-clause-served c = served-level

pub returns-clause-reached : goal.returns-clause-reached
returns-clause-reached c = served-reached

pub returns-clause-gone : goal.returns-clause-gone
returns-clause-gone c = not-reached

pub returns-clause-closed : goal.returns-clause-closed
returns-clause-closed c = closed-served

pub returns-clause-gap : goal.returns-clause-gap
returns-clause-gap c = gap-shows

pub returns-clause-holds : goal.returns-clause-holds
returns-clause-holds c = protected-holds

pub returns-clause-holds_one : goal.returns-clause-holds_one
returns-clause-holds_one c = one-holds

pub returns-clause-holds_with : goal.returns-clause-holds_with
returns-clause-holds_with c = with-holds
