-- Rows with a settling bound that has come are settled, and each is of a link of the plan.
use Rattle.std.proofs.Common.{ℕ, suc, ◌<◌, List, [], ◌∷◌, sym, subst, arith}
use Rattle.std.specs.List.{All, AllZip, range_with_len}
use Rattle.std.proofs.lemmas.List.Elements.{All-cons, All-nil}
use Rattle.std.proofs.lemmas.List.FromFn.{get_or-range_with_len, length-range_with_len}
use Rattle.sync_topo.specs.declared.event.Case.{Case}
use Rattle.sync_topo.specs.declared.event.Event.{Event}
use Rattle.sync_topo.specs.Topology.{Topology}
use Rattle.net_rules.specs.Walks.{Taken}
use Rattle.sync_sweep.specs.declared.row.SweepRow.{SweepRow}
use Rattle.timings.specs.declared.counted.Timing.{Timing}
use Rattle.sync_sweep.specs.declared.working.Worked.{Worked}
use Rattle.sync_sweep.specs.private.Rows.{IsRowOf}
use Rattle.sync_sweep.specs.Sweep.{AreRows}
use Rattle.sync_sweep.specs.private.Working.{AreWorked, IsSettledIfDue}

-- a row whose bound has come is settled
abbrev pub IsRowSettledIfDue : ℕ → SweepRow → Type 0
IsRowSettledIfDue until row = IsSettledIfDue until row.outcome

-- the rows of what the engine gives
pub rows-settled : (IsTold : Topology → Taken → Timing → Type 0) (plan : Topology) (common : List Event) (until : ℕ) (cases : List Case) (worked : List Worked) (rows : List SweepRow)
    → AreWorked IsTold plan common until cases worked → AllZip IsRowOf worked rows → All (IsRowSettledIfDue until) rows
rows-settled IsTold plan common until cases [] [] are same = All-nil (IsRowSettledIfDue until)
rows-settled IsTold plan common until cases [] (row ∷ rows) are same = absurd same
rows-settled IsTold plan common until cases (one ∷ worked) [] are same = absurd same
rows-settled IsTold plan common until [] (one ∷ worked) (row ∷ rows) are same = absurd are
rows-settled IsTold plan common until (case ∷ cases) (one ∷ worked) (row ∷ rows) are same =
    All-cons (IsRowSettledIfDue until) row rows (subst (IsSettledIfDue until) (sym same.0) are.0.due) (rows-settled IsTold plan common until cases worked rows are.1 same.1)

-- the numbers up to but not at a count are below it
pub range-below : (n : ℕ) → All (λ x. x < n) (range_with_len 0 n)
range-below n = λ k d within.
    let inside : k < n = omega (arith, within, length-range_with_len 0 n) in
    omega (arith, inside, get_or-range_with_len 0 n k d inside)

-- each row is of one of the links
pub rows-within : (plan : Topology) (at until n : ℕ) (links : List ℕ) (rows : List SweepRow) → All (λ link. link < n) links → AreRows plan at until links rows
    → All (λ row. row.link < n) rows
rows-within plan at until n [] [] all are = All-nil (λ (row : SweepRow). row.link < n)
rows-within plan at until n [] (row ∷ rows) all are = absurd are
rows-within plan at until n (link ∷ links) [] all are = absurd are
rows-within plan at until n (link ∷ links) (row ∷ rows) all are =
    let first : link < n = all 0 link (omega arith) in
    All-cons (λ (other : SweepRow). other.link < n) row rows (omega (arith, first, are.0.link_is))
    (rows-within plan at until n links rows (λ k d within. all (suc k) d (omega (arith, within))) are.1)
