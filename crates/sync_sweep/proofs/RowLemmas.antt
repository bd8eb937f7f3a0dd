-- The rows of a sweep, by what becomes of the network in each link's case.
use Rattle.std.proofs.Common.{◌≡◌, ◌≢◌, ◌≤◌, ◌<◌, ℕ, suc, List, [], ◌∷◌, length, refl, inl, inr, sym, subst, arith}
use Rattle.std.specs.Prelude.{Result, Ok, Err, IfOk}
use Rattle.std.specs.List.{All, AllZip, range_with_len}
use Rattle.std.proofs.lemmas.List.FromFn.{length-range_with_len}
use Rattle.std.proofs.lemmas.List.Elements.{All-cons, All-nil}
use Rattle.std.proofs.lemmas.Bool.Decides.{eqb_tells}
use Rattle.sync_topo.specs.Topology.{Topology}
use Rattle.net_rules.specs.Walks.{Taken}
use Rattle.sync_topo.specs.Events.{Fits, IsCase, IsEventList}
use Rattle.event_times.proofs.EventTimes.{none-at}
use Rattle.sync_topo.specs.declared.event.Case.{Case}
use Rattle.sync_sweep.specs.declared.row.SweepRow.{SweepRow}
use Rattle.timings.specs.declared.counted.Timing.{Timing}
use Rattle.sync_sweep.specs.declared.working.Worked.{Worked}
use Rattle.sync_sweep.specs.Cases.{merged, IsLastUntil}
use Rattle.sync_sweep.specs.OnWay.{before_own}
use Rattle.sync_sweep.specs.Outcomes.{IsOutcome, IsBoundAfter}
use Rattle.sync_sweep.specs.private.Rows.{IsRowOf}
use Rattle.sync_sweep.specs.Sweep.{failure, IsSweepRow, AreRows, AreSweepRows}
use Rattle.sync_sweep.specs.private.Working.{IsWorked, IsCaseWorked, AreWorked}
use Rattle.sync_sweep.proofs.ChunkLemmas.{zip-length}
use Rattle.event_times.proofs.Ascending.{ordered-by}
use Rattle.sync_sweep.proofs.Merging.{stands-at}

-- a link's failure is a case
failure-list : (plan : Topology) (at link : ℕ) → link < length plan.links → IsEventList plan (failure at link)
failure-list plan at link within = record {
  fit = All-cons (Fits plan) (record { at = at; what = _ }) [] within (All-nil (Fits plan));
  in_order = ordered-by (failure at link) (tt, tt);
}

pub failures-are : (plan : Topology) (at : ℕ) (links : List ℕ) (cases : List Case) → All (λ link. link < length plan.links) links
    → AllZip (λ link case. case.events ≡ failure at link) links cases → All (IsCase plan) cases
failures-are plan at [] [] within zip = All-nil (IsCase plan)
failures-are plan at [] (case ∷ cases) within zip = absurd zip
failures-are plan at (link ∷ links) [] within zip = absurd zip
failures-are plan at (link ∷ links) (case ∷ cases) within zip =
    All-cons (IsCase plan) case cases
    (record {
      list = subst (IsEventList plan) (sym zip.0) (failure-list plan at link (within 0 link (omega arith)));
      some = subst (λ events. 0 < length events) (sym zip.0) (omega arith);
    })
    (failures-are plan at links cases (λ k d inside. within (suc k) d (omega (arith, inside))) zip.1)

-- the last millisecond in which something happens then is that of the failure
last-of-failure : (at until link last : ℕ) → at ≤ until → IsLastUntil (failure at link) until last → last ≡ at
last-of-failure at until link last early is =
    let low : at ≤ last = is.most at (early, stands-at (failure at link) 0 (record { at = at; what = _ }) refl) in
    elim is.reached [
      | inl none ↦ omega (arith, low, none)
      | inr happens ↦ elim (eqb_tells at last) [
        | inl same ↦ sym same.1
        | inr other ↦ absurd (happens.1 (none-at last (failure at link)
            (All-cons (λ event. event.at ≢ last) (record { at = at; what = _ }) [] (λ same. other.1 same) (All-nil (λ event. event.at ≢ last)))))
      ]
    ]

row-of : (IsTold : Topology → Taken → Timing → Type 0) (plan : Topology) (at before until link : ℕ) (worked : Worked) (row : SweepRow) → at ≤ until → row.link ≡ link → IsRowOf worked row
    → IsWorked IsTold plan (failure at link) before until worked → IsSweepRow plan at until link row
row-of IsTold plan at before until link worked row early link_is same is =
    let outcome : IsOutcome plan (failure at link) until row.outcome = subst (IsOutcome plan (failure at link) until) (sym same) is.outcome in
    let last : outcome.last ≡ at = last-of-failure at until link outcome.last early outcome.is_last in
    record { link_is = link_is; shown = outcome.shown; bound = subst (λ t. IsBoundAfter plan t row.outcome.bound) last outcome.bound }

pub rows-of-failures : (IsTold : Topology → Taken → Timing → Type 0) (plan : Topology) (at until : ℕ) (links : List ℕ) (cases : List Case) (worked : List Worked) (rows : List SweepRow) → at ≤ until
    → AllZip (λ link case. case.events ≡ failure at link) links cases → AreWorked IsTold plan [] until cases worked
    → AllZip IsRowOf worked rows → AllZip (λ link row. row.link ≡ link) links rows → AreRows plan at until links rows
unfolding merged
rows-of-failures IsTold plan at until [] cases worked [] early case_of is same numbered = tt
rows-of-failures IsTold plan at until [] cases worked (row ∷ rows) early case_of is same numbered = absurd numbered
rows-of-failures IsTold plan at until (link ∷ links) cases worked [] early case_of is same numbered = absurd numbered
rows-of-failures IsTold plan at until (link ∷ links) [] worked (row ∷ rows) early case_of is same numbered = absurd case_of
rows-of-failures IsTold plan at until (link ∷ links) (case ∷ cases) [] (row ∷ rows) early case_of is same numbered = absurd is
rows-of-failures IsTold plan at until (link ∷ links) (case ∷ cases) (one ∷ worked) (row ∷ rows) early case_of is same numbered = (
  row-of IsTold plan at (before_own (failure at link) until) until link one row early numbered.0 same.0
      (subst (λ events. IsWorked IsTold plan events (before_own events until) until one) case_of.0 is.0),
  rows-of-failures IsTold plan at until links cases worked rows early case_of.1 is.1 same.1 numbered.1,
)

-- so of the rows that a call gives, if it gives any
pub swept : {E : Type 0} (IsTold : Topology → Taken → Timing → Type 0) (plan : Topology) (at until n : ℕ) (cases : List Case) (worked : List Worked) (result : Result (List SweepRow) E) → at ≤ until
    → n ≡ length plan.links → AllZip (λ link case. case.events ≡ failure at link) (range_with_len 0 n) cases → AreWorked IsTold plan [] until cases worked
    → IfOk result (AllZip IsRowOf worked) → IfOk result (AllZip (λ link row. row.link ≡ link) (range_with_len 0 (length worked)))
    → IfOk result (AreSweepRows plan at until)
swept {E} IsTold plan at until n cases worked result early count case_of is same numbered = by result same numbered
  where
    many : length worked ≡ n
    many =
        let first = zip-length (λ link case. case.events ≡ failure at link) (range_with_len 0 n) cases case_of in
        let second = zip-length (IsCaseWorked IsTold plan [] until) cases worked is in
        omega (arith, first, second, length-range_with_len 0 n)

    by : (result : Result (List SweepRow) E) → IfOk result (AllZip IsRowOf worked) → IfOk result (AllZip (λ link row. row.link ≡ link) (range_with_len 0 (length worked)))
        → IfOk result (AreSweepRows plan at until)
    by (Ok rows) same numbered =
        subst (λ k. AreRows plan at until (range_with_len 0 k) rows) count
        (rows-of-failures IsTold plan at until (range_with_len 0 n) cases worked rows early case_of is same
        (subst (λ k. AllZip (λ link row. row.link ≡ link) (range_with_len 0 k) rows) many numbered))
    by (Err refusal) same numbered = tt
