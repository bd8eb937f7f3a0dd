use Rattle.std.proofs.Common.{suc, ap, ◌∙◌, arith}
use Rattle.net_rules.specs.Walks.{Taken}
use Rattle.net_rules.specs.GoingBack.{line_before}
use Rattle.closed_walks.specs.Taking.{taken_in_list}
use Rattle.closed_walks.proofs.LoopLaws.{never-over, back-more}
use Rattle.closed_walks.proofs.listing.walk_from.Goals as goal

pub loop-line-preserved : goal.loop-line-preserved
loop-line-preserved c =
    let facts = back-more c.args.plan.now (taken_in_list c.args.taken.now) c.args.count c.args.first.0 c.loop-line._line c.loop-line.at c.from-at-in-On.result
    c.loop-line.lines c.push.new.self c.in-On.line c.next_of.result c.args.listed.now c.loop-line.listed
    c.requires.comes c.loop-line-test.true (omega (arith, c.loop-line.invariant.within, c.requires.marks, c.loop-line.auto.listed))
    c.loop-line.invariant.here c.next_of.ensures c.in-On.is c.from-at-in-On.ensures.sender c.in_ok-push-in-On.ensures.ok c.loop-line.invariant.lines c.loop-line.invariant.marked in
    record { within = c.from-at-in-On.ensures.within; here = facts.0; lines = facts.1; marked = facts.2 }

pub unreachable-requires : goal.unreachable-requires
unreachable-requires c =
    let taken : Taken = taken_in_list c.args.taken.now in
    never-over (taken c.loop-line.at) c.loop-line.at (line_before c.args.plan.now taken (suc c.loop-line._line) c.args.first.0) c.next_of.result c.in-Over.field-0
    c.next_of.ensures c.in-Over.is (ap taken c.loop-line.invariant.here ∙ c.requires.comes.takes c.loop-line._line c.loop-line-test.true)
