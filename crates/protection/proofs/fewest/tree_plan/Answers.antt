use Rattle.std.proofs.Common.{◌≡◌, refl, ◌∙◌, map}
use Rattle.std.specs.List.{range_with_len}
use Rattle.sync_topo.specs.Lines.{line_count}
use Rattle.protection.specs.private.Tree.{tree_priority}
use Rattle.protection.proofs.TreeLemmas.{listed-tree, listed-well, listed-long}
use Rattle.protection.proofs.fewest.tree_plan.Goals as goal

pub with_priorities-requires : goal.with_priorities-requires
with_priorities-requires c =
    let listed : c.as_slice-2.result.now ≡ map (tree_priority c.args.plan.now c.in_ok-picks.picks.items) (range_with_len 0 (line_count c.args.plan.now)) =
    c.as_slice-2.ensures.value ∙ (rw c.as_slice.ensures.value at c.in_ok-priorities.ensures) in
    listed-long c.args.plan.now c.in_ok-picks.picks.items c.as_slice-2.result.now listed

pub unreachable-requires : goal.unreachable-requires
unreachable-requires c =
    let listed : c.as_slice-2.result.now ≡ map (tree_priority c.args.plan.now c.in_ok-picks.picks.items) (range_with_len 0 (line_count c.args.plan.now)) =
    c.as_slice-2.ensures.value ∙ (rw c.as_slice.ensures.value at c.in_ok-priorities.ensures) in
    (rw c.in-None.is at c.in_ok-given.ensures.none) refl
    (listed-well c.args.plan.now c.args.hops.now c.in_ok-picks.picks.items c.as_slice-2.result.now c.lines-lines.ensures.well_formed c.requires
    c.in_ok-picks.ensures listed)

pub returns : goal.returns
returns c =
    let listed : c.as_slice-2.result.now ≡ map (tree_priority c.args.plan.now c.in_ok-picks.picks.items) (range_with_len 0 (line_count c.args.plan.now)) =
    c.as_slice-2.ensures.value ∙ (rw c.as_slice.ensures.value at c.in_ok-priorities.ensures) in
    record {
      counts = c.args.hops.now;
      are = c.requires;
      picks = c.in_ok-picks.picks.items;
      are_picks = c.in_ok-picks.ensures;
      is = (rw c.in-Some.is at c.in_ok-given.ensures.plan) ∙ listed-tree c.args.plan.now c.in_ok-picks.picks.items c.as_slice-2.result.now listed;
      well_formed = c.lines-lines.ensures.well_formed;
    }
