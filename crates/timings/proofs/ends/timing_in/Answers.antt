use Rattle.closed_walks.specs.Taking.{taken_in_list}
use Rattle.timings.proofs.ends.timing_in.Goals as goal

pub returns : goal.returns
returns c =
    c.counted_of.ensures c.args.plan.now (taken_in_list c.args.taken.now) c.note_left.new.known c.in_ok-note_left.ensures (c.are_all.ensures c.if-not-are_all.false)
