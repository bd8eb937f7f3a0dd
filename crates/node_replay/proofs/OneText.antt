-- Rows have one text and one end.
use Rattle.std.proofs.Common.{◌≡◌, ◌≤◌, ◌<◌, ◌+◌, ◌-◌, ℕ, zero, suc, Bool, true, false, List, map, length, refl, ap, sym, subst, ◌∙◌, arith}
use Rattle.std.specs.Prelude.{◌↔◌}
use Rattle.std.proofs.Math.Decide.{dec_lt}
use Rattle.std.proofs.lemmas.Bool.{true≢false}
use Rattle.std.proofs.lemmas.List.{length-append}
use Rattle.sync_topo.specs.Topology.{Topology}
use Rattle.node_file.specs.declared.row.NodeRow.{NodeRow}
use Rattle.node_replay.specs.declared.replayed.Replayed.{Replayed}
use Rattle.node_replay.specs.declared.replayed.NodeEnd.{NodeEnd}
use Rattle.node_replay.specs.declared.replayed.NodeEnd.TheVariants.{Until, Stopped}
use Rattle.node_rules.specs.NodeText.{frame_row, sending_at, rows_before, AllFit, IsLastFit, stopped_text}
use Rattle.node_replay.specs.Replayed.{IsEnded, IsReplayed}

module _ (plan : Topology) (rows : List NodeRow) (element : ℕ) where
  more-rows : (n k : ℕ) → length (rows_before plan rows element n) ≤ length (rows_before plan rows element (k + n))
  more-rows n zero =
      let same : n ≡ 0 + n = omega arith in
      subst (λ m. length (rows_before plan rows element n) ≤ length (rows_before plan rows element m)) same (omega arith)
  more-rows n (suc k) =
      let before = more-rows n k in
      let more = length-append (rows_before plan rows element (k + n)) (map (frame_row plan rows element (k + n)) (sending_at plan rows element (k + n))) in
      let same : suc (k + n) ≡ suc k + n = omega arith in
      subst (λ m. length (rows_before plan rows element n) ≤ length (rows_before plan rows element m)) same (omega (arith, before, more))

  -- rows of more milliseconds are no fewer
  grow : (m n : ℕ) → m ≤ n → length (rows_before plan rows element m) ≤ length (rows_before plan rows element n)
  grow m n within =
      let same : (n - m) + m ≡ n = omega (arith, within) in
      subst (λ k. length (rows_before plan rows element m) ≤ length (rows_before plan rows element k)) same (more-rows m (n - m))

  -- where all fit, none is the last that does
  pub not-both : (last until : ℕ) → AllFit plan rows element until → IsLastFit plan rows element last until → ⊥
  not-both last until all stop =
      let before = stop.before in
      let full = stop.full in
      let more = grow (suc (suc last)) (suc until) (omega (arith, before)) in
      omega (arith, all, full, more)

  not-later : (one other until : ℕ) → IsLastFit plan rows element one until → IsLastFit plan rows element other until → one < other → ⊥
  not-later one other until first second early =
      let full = first.full in
      let fit = second.fit in
      let more = grow (suc (suc one)) (suc other) (omega (arith, early)) in
      omega (arith, full, fit, more)

  pub one-last : (one other until : ℕ) → IsLastFit plan rows element one until → IsLastFit plan rows element other until → one ≡ other
  one-last one other until first second = elim (dec_lt one other) [
    | yes early ↦ absurd (not-later one other until first second early)
    | no not_early ↦ elim (dec_lt other one) [
      | yes late ↦ absurd (not-later other one until second first late)
      | no not_late ↦ omega (arith, not_early, not_late)
    ]
  ]

  one-end : (until : ℕ) (text other_text : List ℕ) (end other_end : NodeEnd) → IsEnded plan element until rows text end → IsEnded plan element until rows other_text other_end
      → (text ≡ other_text) × (end ≡ other_end)
  one-end until text other_text Until Until is also = (is.1 ∙ sym also.1, refl)
  one-end until text other_text Until (Stopped last) is also = absurd (not-both last until is.0 also.0)
  one-end until text other_text (Stopped last) Until is also = absurd (not-both last until also.0 is.0)
  one-end until text other_text (Stopped one) (Stopped other) is also =
      let same = one-last one other until is.0 also.0 in
      (is.1 ∙ ap (stopped_text plan rows element) same ∙ sym also.1, ap Stopped same)

  ends-whole : (until : ℕ) (text : List ℕ) (end : NodeEnd) → IsEnded plan element until rows text end → (end ≡ Until) ↔ AllFit plan rows element until
  ends-whole until text Until is = (λ same. is.0, λ all. refl)
  ends-whole until text (Stopped last) is = (λ same. absurd (other-end same), λ all. absurd (not-both last until all is.0))
    where
      is-until : NodeEnd → Bool
      is-until Until = true
      is-until (Stopped n) = false

      other-end : Stopped last ≡ Until → ⊥
      other-end same = true≢false (sym (ap is-until same))

  ends-early : (until last : ℕ) (text : List ℕ) (end : NodeEnd) → IsEnded plan element until rows text end → (end ≡ Stopped last) ↔ IsLastFit plan rows element last until
  ends-early until last text Until is = (λ same. absurd (other-end same), λ stop. absurd (not-both last until is.0 stop))
    where
      is-until : NodeEnd → Bool
      is-until Until = true
      is-until (Stopped n) = false

      other-end : Until ≡ Stopped last → ⊥
      other-end same = true≢false (ap is-until same)
  ends-early until last text (Stopped other) is = (
    λ same. subst (λ n. IsLastFit plan rows element n until) (ap number same) is.0,
    λ stop. ap Stopped (one-last other last until is.0 stop),
  )
    where
      number : NodeEnd → ℕ
      number Until = 0
      number (Stopped n) = n

pub one-text : (plan : Topology) (rows : List NodeRow) (element until : ℕ) (one other : Replayed) → IsReplayed plan element until rows one → IsReplayed plan element until rows other
    → (one.text ≡ other.text) × (one.end ≡ other.end)
one-text plan rows element until one other is also = one-end plan rows element until one.text other.text one.end other.end is also

pub until-exactly : (plan : Topology) (rows : List NodeRow) (element until : ℕ) (one : Replayed) → IsReplayed plan element until rows one
    → (one.end ≡ Until) ↔ AllFit plan rows element until
until-exactly plan rows element until one is = ends-whole plan rows element until one.text one.end is

pub stopped-exactly : (plan : Topology) (rows : List NodeRow) (element until last : ℕ) (one : Replayed) → IsReplayed plan element until rows one
    → (one.end ≡ Stopped last) ↔ IsLastFit plan rows element last until
stopped-exactly plan rows element until last one is = ends-early plan rows element until last one.text one.end is
