use Rattle.std.proofs.Common.{sym, ◌∙◌}
use Rattle.timings.proofs.TimingLemmas.{first-lost}
use Rattle.timings.proofs.counted.first_with.Goals as goal

pub returns-then-is_lost : goal.returns-then-is_lost
returns-then-is_lost c = λ front at same.
    first-lost front c.args.ending.now c.args.element c.args.first (c.if-is_none.ensures) (sym c.is_lost.ensures ∙ c.if-is_lost.true) at same
