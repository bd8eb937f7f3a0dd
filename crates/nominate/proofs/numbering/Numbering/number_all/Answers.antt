use Rattle.std.proofs.Common.{◌<◌, arith}
use Rattle.sync_topo.specs.Lines.{line_count, receiver_of}
use Rattle.net_rules.proofs.PlanLaws.{receiver-within}
use Rattle.nominate.proofs.NumberLemmas.{IsNumbered-none, IsNumbered-more, numbers-small}
use Rattle.nominate.proofs.numbering.Numbering.number_all.Goals as goal

pub loop-number-init : goal.loop-number-init
loop-number-init c = IsNumbered-none c.args.plan.now c.args.hops.now c.args.across c.args.self.now c.requires.elements c.requires.lines

pub number-requires-clause-small : goal.number-requires-clause-small
number-requires-clause-small c =
    let inside : c.loop-number.number < line_count c.args.plan.now = omega (arith, c.loop-number-test.true, c.lines-number-end.ensures.count) in
    let receiver = receiver-within c.args.plan.now c.lines-number-end.ensures.well_formed c.loop-number.number inside in
    numbers-small c.args.plan.now c.args.hops.now c.args.across c.loop-number.number (receiver_of c.args.plan.now c.loop-number.number) (line_count c.args.plan.now) c.args.self.now c.loop-number.self
    receiver c.loop-number.invariant (c.requires.small (receiver_of c.args.plan.now c.loop-number.number) receiver) (omega (arith, inside))

pub loop-number-preserved : goal.loop-number-preserved
loop-number-preserved c =
    let inside : c.loop-number.number < line_count c.args.plan.now = omega (arith, c.loop-number-test.true, c.lines-number-end.ensures.count) in
    IsNumbered-more c.args.plan.now c.args.hops.now c.args.across c.loop-number.number c.args.self.now c.loop-number.self c.number.new.self inside
    (receiver-within c.args.plan.now c.lines-number-end.ensures.well_formed c.loop-number.number inside) c.loop-number.invariant c.number.ensures
