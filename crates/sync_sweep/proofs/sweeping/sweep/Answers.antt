use Rattle.std.proofs.Common.{◌<◌, ℕ, List, [], length, ap, sym, subst, arith}
use Rattle.std.specs.List.{All, AllZip, range_with_len}
use Rattle.std.proofs.lemmas.Result.{IfOk-weaker}
use Rattle.sync_topo.specs.declared.event.Case.{Case}
use Rattle.sync_topo.specs.Events.{IsCase}
use Rattle.sync_sweep.specs.private.Rows.{IsRowOf}
use Rattle.sync_sweep.specs.Sweep.{AreSweepRows}
use Rattle.sync_sweep.specs.private.Working.{AreWorked, IsCaseWorked}
use Rattle.sync_sweep.proofs.BoundLemmas.{IsRowSettledIfDue, range-below, rows-settled, rows-within}
use Rattle.sync_sweep.proofs.ChunkLemmas.{zip-length}
use Rattle.sync_sweep.proofs.RowLemmas.{failures-are, swept}
use Rattle.sync_sweep.proofs.sweeping.sweep.Goals as goal

pub work_all-requires-clause-cases : goal.work_all-requires-clause-cases
work_all-requires-clause-cases g c κs within =
    let plan = c.args.plan.now in
    subst (λ (xs : List Case). All (IsCase plan) xs) (sym c.as_slice.ensures)
    (failures-are plan c.args.at (range_with_len 0 c.links.result) c.in_ok-cases.cases
    (subst (λ n. All (λ link. link < n) (range_with_len 0 c.links.result)) c.links.ensures.count (range-below c.links.result)) c.in_ok-cases.ensures.cases)

pub rows_of-requires : goal.rows_of-requires
rows_of-requires g c = record {
  few =
      let well = c.links.ensures.well_formed in
      let many = zip-length (IsCaseWorked (λ p taken told. Unit {0}) c.args.plan.now [] c.args.until) c.as_slice.result.now c.in_ok-worked.worked c.in_ok-worked.ensures.worked in
      omega (arith, well.few_links, c.links.ensures.count, c.in_ok-cases.ensures.count, ap length c.as_slice.ensures, many, ap length c.as_slice-2.ensures);
}

pub returns-clause-rows : goal.returns-clause-rows
returns-clause-rows g c =
    swept (λ p taken told. Unit {0}) c.args.plan.now c.args.at c.args.until c.links.result c.in_ok-cases.cases c.as_slice-2.result.now c.rows_of.result c.requires.in_order c.links.ensures.count c.in_ok-cases.ensures.cases
    (rw (c.as_slice-2.ensures, ← c.as_slice.ensures) c.in_ok-worked.ensures.worked) c.rows_of.ensures.rows c.rows_of.ensures.links

pub returns-clause-of_plan : goal.returns-clause-of_plan
returns-clause-of_plan g c =
    let plan = c.args.plan.now in
    IfOk-weaker c.rows_of.result (AreSweepRows plan c.args.at c.args.until) (All (λ row. row.link < length plan.links))
    (λ rows are. rows-within plan c.args.at c.args.until (length plan.links) (range_with_len 0 (length plan.links)) rows (range-below (length plan.links)) are)
    (swept (λ p taken told. Unit {0}) plan c.args.at c.args.until c.links.result c.in_ok-cases.cases c.as_slice-2.result.now c.rows_of.result c.requires.in_order c.links.ensures.count c.in_ok-cases.ensures.cases
    (rw (c.as_slice-2.ensures, ← c.as_slice.ensures) c.in_ok-worked.ensures.worked) c.rows_of.ensures.rows c.rows_of.ensures.links)

pub returns-clause-bound : goal.returns-clause-bound
returns-clause-bound g c =
    let plan = c.args.plan.now in
    let until : ℕ = c.args.until in
    let worked : AreWorked (λ p taken told. Unit {0}) plan [] until c.in_ok-cases.cases c.as_slice-2.result.now = rw (c.as_slice-2.ensures, ← c.as_slice.ensures) c.in_ok-worked.ensures.worked in
    IfOk-weaker c.rows_of.result (AllZip IsRowOf c.as_slice-2.result.now) (All (IsRowSettledIfDue until))
    (λ rows same. rows-settled (λ p taken told. Unit {0}) plan [] until c.in_ok-cases.cases c.as_slice-2.result.now rows worked same) c.rows_of.ensures.rows
