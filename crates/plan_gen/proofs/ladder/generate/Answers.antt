use Rattle.sync_topo.specs.PlanRows.{plan_of_rows}
use Rattle.plan_gen.specs.Ladder.{ladder}
use Rattle.plan_gen.proofs.RowLaws.{plan_of_rows-ladder, not_refused, same_plan}
use Rattle.plan_gen.proofs.ladder.generate.Goals as goal

pub unreachable-requires : goal.unreachable-requires
unreachable-requires c =
    not_refused (plan_of_rows c.in_ok-rows.rows) (ladder c.args.elements) _
    (rw c.in_ok-rows.ensures (plan_of_rows-ladder c.args.elements c.requires.least c.requires.greatest)) (rw c.in-Err-Refused.field-0-is at c.in-Err-Refused.ensures.exact)

pub returns-in-Ok : goal.returns-in-Ok
returns-in-Ok c = record {
  ladder = same_plan (plan_of_rows c.in_ok-rows.rows) c.in-Ok.plan (ladder c.args.elements) c.in-Ok.ensures.exact
      (rw c.in_ok-rows.ensures (plan_of_rows-ladder c.args.elements c.requires.least c.requires.greatest));
}
