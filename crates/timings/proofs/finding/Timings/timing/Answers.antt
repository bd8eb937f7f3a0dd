use Rattle.closed_walks.specs.Taking.{taken_in_list}
use Rattle.std.proofs.Common.{sym, ◌∙◌}
use Rattle.timings.proofs.FoundLemmas.{found-few, found-all, found-timing}
use Rattle.timings.proofs.finding.Timings.timing.Goals as goal

pub counted-timing-requires-clause-few : goal.counted-timing-requires-clause-few
counted-timing-requires-clause-few c =
    found-few c.args.plan.now (taken_in_list c.args.taken.now) c.find_endings.new.known.items c.as_slice-3.result.now
    c.in_ok-find_endings.ensures.found c.in_ok-find_endings.ensures.well_formed c.as_slice-3.ensures.value

pub counted-timing-requires-clause-known : goal.counted-timing-requires-clause-known
counted-timing-requires-clause-known c =
    found-all c.args.plan.now (taken_in_list c.args.taken.now) c.find_endings.new.known.items c.as_slice-3.result.now
    c.in_ok-find_endings.ensures.found c.as_slice-3.ensures.value
