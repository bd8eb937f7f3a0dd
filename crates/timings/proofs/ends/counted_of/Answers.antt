use Rattle.timings.proofs.EndsLemmas.{noted-timing}
use Rattle.timings.proofs.ends.counted_of.Goals as goal

pub returns : goal.returns
returns c = λ plan taken known noted all.
    noted-timing plan taken known c.args.lines.now c.args.lost.now noted all
    (record { lost = c.count_of-count.result; first = c.first_of.result; longest = c.greatest_of.result }) c.count_of-count.ensures c.first_of.ensures c.greatest_of.ensures
