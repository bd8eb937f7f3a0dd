use Rattle.std.proofs.lemmas.Bool.{true≢false}
use Rattle.std.proofs.Common.{sym, ◌∙◌}
use Rattle.sync_topo.proofs.BundleLaws.{back-reverse, back-ends_where_begins, back-sym, back-apart, unbundled-reverse}
use Rattle.sync_topo.proofs.laws.goes_back_law.Goals as goal

pub returns-clause-reverse : goal.returns-clause-reverse
returns-clause-reverse c = back-reverse

pub returns-clause-returns : goal.returns-clause-returns
returns-clause-returns c = back-ends_where_begins

pub returns-clause-both_ways : goal.returns-clause-both_ways
returns-clause-both_ways c = back-sym

pub returns-clause-apart : goal.returns-clause-apart
returns-clause-apart c = λ plan line well within goes. true≢false (sym goes ∙ back-apart plan line well within)

pub returns-clause-unbundled : goal.returns-clause-unbundled
returns-clause-unbundled c = unbundled-reverse
