use Rattle.std.proofs.Common.{◌++◌, ap, ◌∙◌}
use Rattle.std.specs.Option.{option_to_list}
use Rattle.closed_walks.specs.Taking.{taken_in_list}
use Rattle.closed_walks.proofs.KnownLaws.{taken-own, leads-on, line-within}
use Rattle.closed_walks.proofs.endings.note_back.Goals as goal

pub to-requires : goal.to-requires
to-requires c =
    line-within c.args.plan.now c.args.taken.now c.loop-line.known c.args.element c.loop-line.lines.items c.pop.new.self.items c.in-Some.line c.requires.taken
    (c.pop.ensures.items ∙ ap (λ o. c.pop.new.self.items ++ option_to_list o) c.in-Some.is) c.loop-line.invariant.way

pub loop-line-preserved : goal.loop-line-preserved
loop-line-preserved c =
    let both = leads-on c.args.plan.now (taken_in_list c.args.taken.now) c.args.known.now c.loop-line.known c.note_next.new.known c.args.element c.to.result
    c.loop-line.lines.items c.pop.new.self.items c.in-Some.line (taken-own c.args.plan.now c.args.taken.now c.requires.taken)
    (c.pop.ensures.items ∙ ap (λ o. c.pop.new.self.items ++ option_to_list o) c.in-Some.is) c.to.ensures.receiver
    c.loop-line.invariant.more c.loop-line.invariant.way (λ l takes is. (c.note_next.ensures.more, c.note_next.ensures.element l takes is)) in
    record { more = both.0; way = both.1 }
