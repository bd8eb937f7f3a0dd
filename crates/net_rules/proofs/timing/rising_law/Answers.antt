use Rattle.net_rules.proofs.FinalLaws.{loop_free}
use Rattle.net_rules.proofs.SettledLaws.{rising-loop_free}
use Rattle.net_rules.proofs.timing.rising_law.Goals as goal

pub returns-clause-loop_free : goal.returns-clause-loop_free
returns-clause-loop_free c = loop_free

pub returns-clause-obeying : goal.returns-clause-obeying
returns-clause-obeying c = rising-loop_free
