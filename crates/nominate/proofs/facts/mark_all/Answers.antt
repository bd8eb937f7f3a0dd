use Rattle.std.proofs.Common.{length}
use Rattle.nominate.proofs.MarkLemmas.{AreMarks-none}
use Rattle.nominate.proofs.facts.mark_all.Goals as goal

pub loop-number-init : goal.loop-number-init
loop-number-init c = AreMarks-none c.args.plan.now c.args.hops.now (length c.args.plan.now.elements) c.args.marks.now c.requires.none
