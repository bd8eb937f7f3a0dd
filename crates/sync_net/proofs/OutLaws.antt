-- Which lines are the nominated ones out of an element.
use Rattle.std.proofs.Common.{◌≡◌, ℕ, suc, true, nat_eq, List, [], ◌∷◌, get_or, refl, sym, subst, inl, inr, arith}
use Rattle.std.specs.List.{All}
use Rattle.std.proofs.lemmas.Bool.{eq-eqb, true≢false}
use Rattle.std.proofs.lemmas.List.Folds.{list_any_at}
use Rattle.sync_topo.specs.declared.input.LineId.{LineId}
use Rattle.sync_topo.specs.Topology.{Topology}
use Rattle.sync_topo.specs.Lines.{line_id, lines_out, IsNominated, sender_of}
use Rattle.sync_topo.specs.private.Lines.{IsLineOut}
use Rattle.sync_topo.proofs.LinesOut.{lines_out-are, lines_out-all}
use Rattle.sync_net.specs.private.Stages.{is_among, is_out_of}
use Rattle.sync_net.proofs.StageLaws.{one-of, is-place}

-- what holds of each of some lines holds of a line that is among them
among-has : (P : LineId → Type 0) (k : ℕ) (lines : List LineId) → All P lines → is_among lines k ≡ true → P (line_id k)
among-has P k [] all is = absurd (true≢false (sym is))
among-has P k (line ∷ lines) all is = elim (one-of (nat_eq k line.0) (is_among lines k) is) [
  | inl here ↦ subst (λ n. P (line_id n)) (sym (is-place k line.0 here)) (all 0 line (omega arith))
  | inr later ↦ among-has P k lines (λ i d inside. all (suc i) d (omega (arith, inside))) later.1
]

-- a line out of an element is nominated, and the element sends over it
pub out-is : (plan : Topology) (element line : ℕ) → is_out_of plan element line ≡ true → IsLineOut plan element (line_id line)
out-is plan element line is = among-has (IsLineOut plan element) line (lines_out plan element) (lines_out-are plan element) is

-- and each nominated line is one of those out of its sender
pub out-every : (plan : Topology) (line : ℕ) → IsNominated plan line → is_out_of plan (sender_of plan line) line ≡ true
out-every plan line nominated =
    lines_out-all (λ (l : LineId). is_out_of plan (sender_of plan line) l.0 ≡ true) plan (sender_of plan line)
    (λ i d inside.
    let lines = lines_out plan (sender_of plan line) in
    let number = (get_or lines i d).0 in
    list_any_at (λ (l : LineId). nat_eq number l.0) lines i d inside (eq-eqb number number refl))
    line nominated refl
