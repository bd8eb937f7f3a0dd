use Rattle.std.proofs.Common.{sym, ◌∙◌, arith}
use Rattle.timings.proofs.EndsLemmas.{first-is, first-none, count-none}
use Rattle.timings.proofs.ends.first_of.Goals as goal

pub returns-then-count-eq0 : goal.returns-then-count-eq0
returns-then-count-eq0 c = first-none c.args.set.now (count-none c.args.set.now (sym c.requires.counted ∙ c.if-count-eq0.true))

pub returns-then-one : goal.returns-then-one
returns-then-one c = first-is c.args.set.now c.loop-number.number c.loop-number-test.true c.if-one.true c.loop-number.invariant

pub returns : goal.returns
returns c = first-none c.args.set.now (λ k within. c.loop-number.invariant k (omega (arith, within, c.loop-number-test.false)))
