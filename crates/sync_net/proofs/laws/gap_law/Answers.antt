use Rattle.sync_net.specs.Standing.{StandsFor}
use Rattle.sync_net.proofs.QuietObjects.{line-heard}
use Rattle.sync_net.proofs.QuietGap.{stands-later}
use Rattle.sync_net.proofs.LineNews.{line-busy}
use Rattle.sync_net.proofs.ActiveLaws.{element-active, due-busy}
use Rattle.sync_net.proofs.laws.gap_law.Goals as goal

pub returns-clause-heard : goal.returns-clause-heard
returns-clause-heard c = line-heard

pub returns-clause-later : goal.returns-clause-later
unfolding StandsFor
returns-clause-later c = stands-later

pub returns-clause-active : goal.returns-clause-active
returns-clause-active c = element-active

pub returns-clause-line_busy : goal.returns-clause-line_busy
returns-clause-line_busy c = line-busy

pub returns-clause-busy : goal.returns-clause-busy
unfolding StandsFor
returns-clause-busy c = due-busy
