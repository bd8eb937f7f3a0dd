use Rattle.net_rules.proofs.FinalLaws.{later-pasts, later-lines, later-inputs, order-pasts, order-lines, order-inputs, idle-by_events, quiet-by_events}
use Rattle.net_rules.proofs.IdleLaws.{quiet-heard}
use Rattle.net_rules.proofs.history.order_law.Goals as goal

pub returns-clause-later : goal.returns-clause-later
returns-clause-later c = later-pasts

pub returns-clause-order : goal.returns-clause-order
returns-clause-order c = order-pasts

pub returns-clause-idle : goal.returns-clause-idle
returns-clause-idle c = idle-by_events

pub returns-clause-quiet : goal.returns-clause-quiet
returns-clause-quiet c = quiet-by_events

pub returns-clause-quiet_heard : goal.returns-clause-quiet_heard
returns-clause-quiet_heard c = quiet-heard

pub returns-clause-later_lines : goal.returns-clause-later_lines
returns-clause-later_lines c = later-lines

pub returns-clause-later_inputs : goal.returns-clause-later_inputs
returns-clause-later_inputs c = later-inputs

pub returns-clause-order_lines : goal.returns-clause-order_lines
returns-clause-order_lines c = order-lines

pub returns-clause-order_inputs : goal.returns-clause-order_inputs
returns-clause-order_inputs c = order-inputs
