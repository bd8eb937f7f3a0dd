use Rattle.std.proofs.Common.{sym, ◌∙◌}
use Rattle.net_rules.proofs.FinalLaws.{loop_free}
use Rattle.protection.proofs.FoundLaws.{empty-is, gaps-in}
use Rattle.protection.proofs.GapLaws.{gaps-protected, gaps-within, none-holds}
use Rattle.protection.proofs.SharedLaws.{outputs-found}
use Rattle.protection.proofs.guarding.protect.Goals as goal

pub all_gaps-requires : goal.all_gaps-requires
all_gaps-requires c =
    outputs-found c.args.plan.now c.in_ok-found.found c.in_ok-outputs.outputs.items c.in_ok-found.ensures.found.renumbered c.in_ok-outputs.ensures

pub returns-then-is_empty-clause-loop_free : goal.returns-then-is_empty-clause-loop_free
returns-then-is_empty-clause-loop_free c =
    let orderly = c.in_ok-found.ensures.found.orderly in
    loop_free c.in_ok-found.found orderly.rising.0 orderly.well_formed orderly.rising.1

pub returns-clause-within : goal.returns-clause-within
returns-clause-within c =
    gaps-in c.args.plan.now c.in_ok-found.found c.in_ok-gaps.gaps c.in_ok-found.ensures.found
    (gaps-within c.in_ok-found.found c.in_ok-gaps.gaps c.elements-elements.ensures.well_formed c.in_ok-gaps.ensures)

pub returns-then-is_empty-clause-protected : goal.returns-then-is_empty-clause-protected
returns-then-is_empty-clause-protected c =
    gaps-protected c.in_ok-found.found c.in_ok-gaps.gaps c.in_ok-gaps.ensures
    (empty-is c.in_ok-gaps.gaps (rw (c.as_slice-2.ensures) at (sym c.is_empty.ensures ∙ c.if-is_empty.true)))

pub returns-then-is_empty-clause-holds : goal.returns-then-is_empty-clause-holds
returns-then-is_empty-clause-holds c =
    none-holds c.in_ok-found.found c.in_ok-gaps.gaps c.elements-elements.ensures.well_formed c.in_ok-gaps.ensures
    (empty-is c.in_ok-gaps.gaps (rw (c.as_slice-2.ensures) at (sym c.is_empty.ensures ∙ c.if-is_empty.true)))
