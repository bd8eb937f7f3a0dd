use Rattle.std.proofs.Common.{◌∙◌, subst}
use Rattle.std.specs.List.Sorted.{IsPermutation}
use Rattle.agenda.proofs.InOrder.{in-order}
use Rattle.agenda.proofs.called.in_order.Goals as goal

pub returns : goal.returns
returns c =
    in-order c.args.marks.now c.sort_unstable.new.self.items c.listed.ensures.all
    (subst (λ listed. IsPermutation listed c.sort_unstable.new.self.items)
    (c.in-Ok.ensures.items ∙ c.listed.ensures.listed) c.sort_unstable.ensures.permutation)
    c.sort_unstable.ensures.sorted
