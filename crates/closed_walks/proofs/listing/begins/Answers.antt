use Rattle.std.proofs.Common.{◌≡◌, ap, ◌∙◌, arith}
use Rattle.std.specs.Prelude.{Some}
use Rattle.sync_topo.specs.Lines.{line_input}
use Rattle.net_rules.specs.Walks.{Taken}
use Rattle.closed_walks.specs.Taking.{taken_in_list}
use Rattle.closed_walks.proofs.FollowLaws.{takes-on}
use Rattle.closed_walks.proofs.KnownLaws.{taken-own}
use Rattle.closed_walks.proofs.LoopLaws.{begins-comes, begins-none}
use Rattle.closed_walks.proofs.listing.begins.Goals as goal

pub returns-in-On-clause-comes : goal.returns-in-On-clause-comes
returns-in-On-clause-comes c =
    let plan = c.args.plan.now in
    let taken : Taken = taken_in_list c.args.taken.now in
    let takes : taken c.to-to.result ≡ Some (line_input c.args.line.0) =
    takes-on (taken c.to-to.result) c.to-to.result c.in-On.other c.next_of.result c.next_of.ensures c.in-On.is ∙ ap (λ l. Some (line_input l)) c.if-other-line.true in
    begins-comes plan taken c.args.endings.now c.to-to.result c.args.line.0 c.loop_of.result (taken-own plan c.args.taken.now c.requires.taken) c.requires.endings takes c.loop_of.ensures.some

pub returns-in-On-clause-none : goal.returns-in-On-clause-none
returns-in-On-clause-none c = λ none count takes comes.
    absurd (begins-none c.args.plan.now (taken_in_list c.args.taken.now) c.args.endings.now c.to-to.result c.args.line.0 count
    (taken-own c.args.plan.now c.args.taken.now c.requires.taken)
    (omega (arith, c.to-to.ensures.within, c.requires.count)) c.requires.endings (c.loop_of.ensures.none none) c.to-to.ensures.receiver takes comes)
