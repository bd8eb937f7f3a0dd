use Rattle.std.proofs.Common.{◌∙◌, [], sym, ap, refl, Ok}
use Rattle.group_file.proofs.Taking.{AreGroupsLeft-more, groups_refused, groups_given}
use Rattle.group_file.proofs.reading.take_rows.Goals as goal

pub loop-kept-init : goal.loop-kept-init
loop-kept-init c = (record { done = []; parts = refl; taken = c.in_ok-kept.ensures }, c.requires)

pub loop-kept-preserved : goal.loop-kept-preserved
loop-kept-preserved c =
    let next = c.in_ok-advance.ensures.found (ap Ok c.if-branch.true) in (
      AreGroupsLeft-more c.args.plan.now c.args.records.now.left c.taken.result.now c.advance.new.self.left c.loop-kept.kept c.take_row.new.self
          (rw (c.taken.ensures, ← next) c.loop-kept.invariant.0) c.in-Ok.ensures.taken,
      c.in_ok-advance.ensures.goes_on,
    )

pub returns-in-Err : goal.returns-in-Err
returns-in-Err c =
    let next = c.in_ok-advance.ensures.found (ap Ok c.if-branch.true) in
    groups_refused c.args.plan.now c.args.records.now.left c.taken.result.now c.advance.new.self.left c.loop-kept.kept c.in-Err.error
    (rw (c.taken.ensures, ← next) c.loop-kept.invariant.0) c.in-Err.ensures.refused

-- no row is left
pub returns : goal.returns
returns c =
    let none = c.in_ok-advance.ensures.none (ap Ok c.if-branch.false) in
    groups_given c.args.plan.now c.args.records.now.left c.loop-kept.kept (rw none at c.loop-kept.invariant.0) ∙ ap Ok (sym c.in_ok-groups.ensures)
