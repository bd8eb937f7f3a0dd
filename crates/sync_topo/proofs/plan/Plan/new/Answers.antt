use Rattle.std.proofs.lemmas.Result.{err_from_is_err_and}
use Rattle.sync_topo.proofs.FirstBroken.{kept-plan, plan-kept, refused-first, Tells-all}
use Rattle.sync_topo.proofs.RowsOfPlan.{plan_of_rows-rows_of_plan}
use Rattle.sync_topo.proofs.Accepted.{accepted-well_formed}
use Rattle.sync_topo.proofs.plan.Plan.new.Goals as goal

pub returns-in_err-parts-clause-exact : goal.returns-in_err-parts-clause-exact
returns-in_err-parts-clause-exact c =
    let p = err_from_is_err_and c.from_residual.result c.from_residual.ensures.1 in
    rw (p.1, p.2) (Tells-all c.args.rows _ c.in_err-parts.ensures.rules)

pub returns-in_err-parts-clause-refused : goal.returns-in_err-parts-clause-refused
returns-in_err-parts-clause-refused c = refused-first c.args.rows

pub returns-in_err-parts-clause-again : goal.returns-in_err-parts-clause-again
returns-in_err-parts-clause-again c = plan_of_rows-rows_of_plan

pub returns-clause-again : goal.returns-clause-again
returns-clause-again c = plan_of_rows-rows_of_plan

pub returns-clause-exact : goal.returns-clause-exact
returns-clause-exact c = kept-plan c.args.rows _ c.in_ok-parts.ensures.rules c.in_ok-parts.ensures.plan

pub returns-in_err-parts-clause-kept : goal.returns-in_err-parts-clause-kept
returns-in_err-parts-clause-kept c = plan-kept c.args.rows

pub returns-clause-kept : goal.returns-clause-kept
returns-clause-kept c = plan-kept c.args.rows

pub returns-clause-refused : goal.returns-clause-refused
returns-clause-refused c = refused-first c.args.rows

pub returns-in_err-parts-clause-accepted : goal.returns-in_err-parts-clause-accepted
returns-in_err-parts-clause-accepted c = accepted-well_formed

pub returns-clause-accepted : goal.returns-clause-accepted
returns-clause-accepted c = accepted-well_formed
