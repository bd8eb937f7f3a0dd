use Rattle.net_rules.proofs.Arrivals.{heard-said}
use Rattle.net_rules.proofs.history.heard_law.Goals as goal

pub returns : goal.returns
returns c = record { was_said = heard-said }
