use Rattle.std.proofs.Common.{Some, sym, ◌∙◌}
use Rattle.sync_ql.proofs.Delivered.{same-is}
use Rattle.sync_ql.proofs.table.is_same_heard.Goals as goal

pub returns-in-Some-Some-clause-same : goal.returns-in-Some-Some-clause-same
returns-in-Some-Some-clause-same c same =
    rw (c.in-Some-Some.is-0, c.in-Some-Some.is-1)
    (same-is (Some c.in-Some-Some.one) (Some c.in-Some-Some.other) (sym c.is_same_level.ensures ∙ same))
