-- There is one last millisecond up to which all changes fit.
use Rattle.std.proofs.Common.{◌≡◌, ◌<◌, ℕ, suc, List, arith}
use Rattle.std.proofs.Math.Decide.{dec_lt}
use Rattle.sync_topo.specs.declared.event.Event.{Event}
use Rattle.sync_topo.specs.Topology.{Topology}
use Rattle.event_sim.specs.Answers.{IsLastFit}
use Rattle.event_sim.proofs.LaterRows.{rows-grow}

no_later : (plan : Topology) (events : List Event) (until t u : ℕ) → IsLastFit plan events t until → IsLastFit plan events u until → t < u → ⊥
no_later plan events until t u first second before =
    omega (arith, first.full, second.fit, rows-grow plan events (suc (suc t)) (suc u) (omega (arith, before)))

pub one_last : (plan : Topology) (events : List Event) (until t u : ℕ) → IsLastFit plan events t until → IsLastFit plan events u until → t ≡ u
one_last plan events until t u first second = elim (dec_lt t u) [
  | yes before ↦ absurd (no_later plan events until t u first second before)
  | no not_before ↦ elim (dec_lt u t) [
    | yes behind ↦ absurd (no_later plan events until u t second first behind)
    | no not_behind ↦ omega (arith, not_before, not_behind)
  ]
]
