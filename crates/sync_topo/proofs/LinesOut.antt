-- The nominated lines out of an element.
use Rattle.std.proofs.Common.{◌≡◌, ℕ, ◌&&◌, ◌==◌, filter, Some, slice_get, ap, ◌∙◌, subst, arith}
use Rattle.std.specs.List.{range_with_len, All}
use Rattle.std.specs.Cmp.Derive.{both_true}
use Rattle.std.proofs.lemmas.Bool.{and_parts, eqb-true, eq-eqb}
use Rattle.std.proofs.lemmas.List.Elements.{All-map, filter_passes}
use Rattle.std.proofs.lemmas.Option.{slice_get-map, slice_get_within, get_or_from_slice_get}
use Rattle.std.specs.Prelude.{option_map}
use Rattle.sync_topo.specs.declared.input.LineId.{LineId}
use Rattle.sync_topo.specs.Topology.{Topology}
use Rattle.sync_topo.specs.Lines.{line_count, line_id, lines_out, is_nominated, IsNominated, sender_of}
use Rattle.sync_topo.specs.private.Lines.{IsLineOut}
use Rattle.sync_topo.proofs.KeptNumbers.{kept_in_range}
use Rattle.sync_topo.proofs.LineLaws.{IsNominated-within}

-- each of them is one
pub lines_out-are : (plan : Topology) (element : ℕ) → All (IsLineOut plan element) (lines_out plan element)
lines_out-are plan element =
    All-map (IsLineOut plan element) line_id (filter (λ line. is_nominated plan line && sender_of plan line == element) (range_with_len 0 (line_count plan)))
    (λ place line inside.
    let both = and_parts _ _ (filter_passes (λ line. is_nominated plan line && sender_of plan line == element) (range_with_len 0 (line_count plan)) place line inside) in
    record { nominated = both.0; sent = eqb-true _ _ both.1 })

-- and what holds of each of them holds of each nominated line that the element sends over
pub lines_out-all : (P : LineId → Type 0) (plan : Topology) (element : ℕ) → All P (lines_out plan element) → (line : ℕ) → IsNominated plan line → sender_of plan line ≡ element
    → P (line_id line)
lines_out-all P plan element all line nominated sent =
    let test = λ (l : ℕ). is_nominated plan l && sender_of plan l == element in
    let passes = both_true {s = is_nominated plan line} {t = sender_of plan line == element} nominated (eq-eqb (sender_of plan line) element sent) in
    let found = kept_in_range test 0 (line_count plan) line passes (omega arith) (omega (arith, IsNominated-within plan line nominated)) in
    let kept = filter test (range_with_len 0 (line_count plan)) in
    let there : slice_get (lines_out plan element) found.0 ≡ Some (line_id line) = slice_get-map line_id kept found.0 ∙ ap (option_map line_id) found.1 in
    subst P (get_or_from_slice_get (lines_out plan element) found.0 (line_id line) (line_id line) there)
    (all found.0 (line_id line) (slice_get_within (lines_out plan element) found.0 (line_id line) there))
