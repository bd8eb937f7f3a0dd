-- A plan has one row for each link.
use Rattle.std.proofs.Common.{◌≡◌, ℕ, List, [], ◌∷◌, length, refl, sym, ap, ◌∙◌}
use Rattle.std.specs.List.{range_with_len}
use Rattle.sync_topo.specs.Topology.{Topology}
use Rattle.sync_sweep.specs.declared.row.SweepRow.{SweepRow}
use Rattle.sync_sweep.specs.Sweep.{failure, IsSweepRow, AreRows, AreSweepRows}
use Rattle.sync_sweep.proofs.OneOutcome.{one-shown, one-or-none}

-- a link has one row
one-row : (plan : Topology) (at until link : ℕ) (one other : SweepRow) → IsSweepRow plan at until link one → IsSweepRow plan at until link other → one ≡ other
one-row plan at until link one other first second =
    ap (λ x. record { link = x; outcome = one.outcome }) (first.link_is ∙ sym second.link_is)
    ∙ ap (λ x. record { link = other.link; outcome = x })
    (one-shown plan (failure at link) until one.outcome other.outcome first.shown second.shown
    (one-or-none plan at one.outcome.bound other.outcome.bound first.bound second.bound))

-- links have one row each
one-rows : (plan : Topology) (at until : ℕ) (links : List ℕ) (rows others : List SweepRow) → AreRows plan at until links rows
    → AreRows plan at until links others → rows ≡ others
one-rows plan at until [] [] [] first second = refl
one-rows plan at until [] (row ∷ rows) others first second = absurd first
one-rows plan at until [] [] (other ∷ others) first second = absurd second
one-rows plan at until (link ∷ links) [] others first second = absurd first
one-rows plan at until (link ∷ links) (row ∷ rows) [] first second = absurd second
one-rows plan at until (link ∷ links) (row ∷ rows) (other ∷ others) first second =
    ap (λ r. r ∷ rows) (one-row plan at until link row other first.0 second.0)
    ∙ ap (λ rs. other ∷ rs) (one-rows plan at until links rows others first.1 second.1)

pub one-sweep : (plan : Topology) (at until : ℕ) (rows others : List SweepRow) → AreSweepRows plan at until rows → AreSweepRows plan at until others
    → rows ≡ others
one-sweep plan at until rows others = one-rows plan at until (range_with_len 0 (length plan.links)) rows others
