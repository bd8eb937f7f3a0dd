use Rattle.std.proofs.Common.{Some}
use Rattle.nominate.proofs.SourceLemmas.{root-tells}
use Rattle.nominate.proofs.search.is_root.Goals as goal

pub returns-in-Some : goal.returns-in-Some
returns-in-Some c =
    rw c.is_source.ensures (root-tells c.args.plan.now c.args.element c.inputs.result.now (Some c.in-Some.input.now) c.inputs.ensures.inputs c.in-Some.ensures.value)
