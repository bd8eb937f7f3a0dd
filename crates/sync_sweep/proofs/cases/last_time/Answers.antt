use Rattle.std.proofs.Common.{sym}
use Rattle.sync_sweep.proofs.CaseLemmas.{last-happens}
use Rattle.sync_sweep.proofs.cases.last_time.Goals as goal

pub returns-in-Some : goal.returns-in-Some
returns-in-Some c = λ ordered. last-happens c.args.events.now c.in-Some.event.now ordered (sym c.in-Some.ensures.value)
