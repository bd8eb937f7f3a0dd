use Rattle.std.specs.Prelude.{slice_index}
use Rattle.protection.specs.Orderly.{IsRenumbered}
use Rattle.protection.proofs.SharedLaws.{outputs-found, counts-found}
use Rattle.protection.proofs.guarding.searched.Goals as goal

pub is_orderly-requires : goal.is_orderly-requires
is_orderly-requires c =
    let is : IsRenumbered c.args.plan.now c.in-Some.found = (λ line. slice_index c.as_slice.result.now line, rw c.in-Some.is at c.in_ok-given.ensures.plan) in
    counts-found c.args.plan.now c.in-Some.found c.args.hops.now is c.requires.hops

pub serves_all-requires : goal.serves_all-requires
serves_all-requires c =
    let is : IsRenumbered c.args.plan.now c.in-Some.found = (λ line. slice_index c.as_slice.result.now line, rw c.in-Some.is at c.in_ok-given.ensures.plan) in
    outputs-found c.args.plan.now c.in-Some.found c.args.outputs.now is c.requires.outputs

pub returns : goal.returns
returns c = record {
  found = record {
    renumbered = (λ line. slice_index c.as_slice.result.now line, rw c.in-Some.is at c.in_ok-given.ensures.plan);
    orderly = c.in_ok-orderly.ensures c.if-not-orderly.false;
  };
  served = c.in_ok-served.ensures c.if-not-served.false;
}
