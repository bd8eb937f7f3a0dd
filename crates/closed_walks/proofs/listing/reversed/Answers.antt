use Rattle.std.proofs.Common.{◌++◌, ap, ◌∙◌}
use Rattle.std.specs.Option.{option_to_list}
use Rattle.closed_walks.specs.private.Listing.{backwards}
use Rattle.closed_walks.proofs.LoopLaws.{reversed-more}
use Rattle.closed_walks.proofs.listing.reversed.Goals as goal

pub loop-line-preserved : goal.loop-line-preserved
loop-line-preserved c =
    reversed-more c.loop-line.walk c.push.new.self c.loop-line.lines.items c.pop.new.self.items c.in-Some.line (backwards c.args.lines.items)
    (c.pop.ensures.items ∙ ap (λ o. c.pop.new.self.items ++ option_to_list o) c.in-Some.is) c.in_ok-push.ensures.ok c.loop-line.invariant
