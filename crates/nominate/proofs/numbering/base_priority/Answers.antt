use Rattle.std.proofs.Common.{◌≡◌, [], List, map, drop, ap, arith}
use Rattle.sync_topo.specs.declared.input.InputId.{InputId}
use Rattle.std.proofs.Math.ListN.{drop_of_length-le}
use Rattle.nominate.specs.Nomination.{greatest_of}
use Rattle.nominate.specs.private.Numbering.{own_priority}
use Rattle.nominate.proofs.OwnLemmas.{greatest-own}
use Rattle.nominate.proofs.numbering.base_priority.Goals as goal

pub returns : goal.returns
returns c =
    let end : drop c.loop-input.input-index c.inputs-input-items.result.now ≡ [] = drop_of_length-le c.inputs-input-items.result.now c.loop-input-test.false in
    let whole = rw end at c.loop-input.invariant in
    let all = ap (λ (inputs : List InputId). greatest_of (map (own_priority c.args.plan.now) inputs)) c.inputs-input-items.ensures.inputs in
    let own = greatest-own c.args.plan.now c.args.element in
    omega (arith, whole, all, own)
