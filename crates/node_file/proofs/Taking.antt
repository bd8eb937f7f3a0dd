-- The lines that are gone through, one more and all.
use Rattle.std.proofs.Common.{◌≡◌, ◌≤◌, ◌<◌, ℕ, ◌+◌, zero, suc, true, false, List, [], ◌∷◌, ◌++◌, length, Option, Some, None, slice_get, refl, ap, ◌∙◌, arith, inl, inr, append-nil}
use Rattle.std.specs.Prelude.{Ok, Err}
use Rattle.std.specs.List.{filter_map}
use Rattle.std.proofs.lemmas.Bool.{cases_lt}
use Rattle.std.proofs.lemmas.List.{length-append}
use Rattle.std.proofs.lemmas.List.Elements.{filter_map-append}
use Rattle.sync_topo.proofs.RuleLemmas.{slice_get-front}
use Rattle.sync_topo.specs.Topology.{Topology}
use Rattle.csv_records.proofs.FirstRefusals.{first_refusal-some, first_refusal-none}
use Rattle.node_file.specs.declared.error.NodeErr.{NodeErr}
use Rattle.node_file.specs.declared.row.NodeRow.{NodeRow}
use Rattle.node_file.specs.NodeFile.{is_blank, time_in, time_before, line_refusal, refusal_at, row_in, rows_of_lines}
use Rattle.node_file.specs.Cutting.{with_row}

at_seam : (done : List (List ℕ)) (line : List ℕ) (rest : List (List ℕ)) → slice_get (done ++ line ∷ rest) (length done) ≡ Some line
at_seam [] line rest = refl
at_seam (first ∷ done) line rest = at_seam done line rest

-- what stands behind changes no time before
pub time_same : (done rest : List (List ℕ)) (n : ℕ) → n ≤ length done → time_before (done ++ rest) n ≡ time_before done n
time_same done rest zero within = refl
time_same done rest (suc n) within = rw (time_same done rest n (omega (arith, within)), slice_get-front done rest n (omega (arith, within))) refl

refusal_same : (plan : Topology) (element : ℕ) (done rest : List (List ℕ)) (place : ℕ) → place < length done
    → refusal_at plan element (done ++ rest) place ≡ refusal_at plan element done place
refusal_same plan element done rest place within =
    rw (time_same done rest place (omega (arith, within)), slice_get-front done rest place within) refl

-- the rule that the next line breaks
pub refusal_next : (plan : Topology) (element : ℕ) (done : List (List ℕ)) (line : List ℕ) (rest : List (List ℕ))
    → refusal_at plan element (done ++ line ∷ rest) (length done) ≡ line_refusal plan element (length done + 1) (time_before done (length done)) line
refusal_next plan element done line rest = rw (time_same done (line ∷ rest) (length done) (omega arith), at_seam done line rest) refl

-- no line of these breaks a rule
abbrev pub AreSound : Topology → ℕ → List (List ℕ) → Type 0
AreSound plan element done = (place : ℕ) → place < length done → refusal_at plan element done place ≡ None

pub sound_more : (plan : Topology) (element : ℕ) (done : List (List ℕ)) (line : List ℕ) → AreSound plan element done
    → line_refusal plan element (length done + 1) (time_before done (length done)) line ≡ None → AreSound plan element (done ++ line ∷ [])
sound_more plan element done line sound is place within =
    let size : length (done ++ line ∷ []) ≡ length done + 1 = length-append done (line ∷ []) in
    elim (cases_lt place (length done)) [
      | inl before ↦ refusal_same plan element done (line ∷ []) place before ∙ sound place before
      | inr beyond ↦
          let here : place ≡ length done = omega (arith, size, within, beyond) in
          ap (refusal_at plan element (done ++ line ∷ [])) here ∙ refusal_next plan element done line [] ∙ is
    ]

-- then they give their rows
pub rows_given : (plan : Topology) (element : ℕ) (done : List (List ℕ)) → AreSound plan element done
    → rows_of_lines plan element done ≡ Ok (filter_map (row_in plan element) done)
rows_given plan element done sound = rw (first_refusal-none (refusal_at plan element done) (length done) sound) refl

-- and where the next breaks one, that is the refusal of all
pub rows_refused : (plan : Topology) (element : ℕ) (done : List (List ℕ)) (line : List ℕ) (rest : List (List ℕ)) (error : NodeErr) → AreSound plan element done
    → line_refusal plan element (length done + 1) (time_before done (length done)) line ≡ Some error
    → rows_of_lines plan element (done ++ line ∷ rest) ≡ Err error
rows_refused plan element done line rest error sound broken =
    let size : length (done ++ line ∷ rest) ≡ length done + length (line ∷ rest) = length-append done (line ∷ rest) in
    rw (first_refusal-some (refusal_at plan element (done ++ line ∷ rest)) (length (done ++ line ∷ rest)) (length done) error
    (omega (arith, size))
    (refusal_next plan element done line rest ∙ broken)
    (λ place before. refusal_same plan element done (line ∷ rest) place before ∙ sound place before)) refl

-- the rows of one line more
pub rows_more : (plan : Topology) (element : ℕ) (done : List (List ℕ)) (line : List ℕ) (row : Option NodeRow) → row_in plan element line ≡ row
    → filter_map (row_in plan element) (done ++ line ∷ []) ≡ with_row (filter_map (row_in plan element) done) row
rows_more plan element done line row is = filter_map-append (row_in plan element) done (line ∷ []) ∙ by row is
  where
    by : (row : Option NodeRow) → row_in plan element line ≡ row
        → filter_map (row_in plan element) done ++ filter_map (row_in plan element) (line ∷ []) ≡ with_row (filter_map (row_in plan element) done) row
    by None is = rw is (append-nil (filter_map (row_in plan element) done))
    by (Some given) is = rw is refl

-- the time of the last line that says something
pub time_of_blank : (done : List (List ℕ)) (line : List ℕ) → is_blank line ≡ true → time_before (done ++ line ∷ []) (length done + 1) ≡ time_before done (length done)
time_of_blank done line blank =
    let one : length done + 1 ≡ suc (length done) = omega arith in
    rw (one, at_seam done line [], blank) (time_same done (line ∷ []) (length done) (omega arith))

pub time_of_row : (done : List (List ℕ)) (line : List ℕ) (at : ℕ) → is_blank line ≡ false → time_in line ≡ Some at
    → time_before (done ++ line ∷ []) (length done + 1) ≡ at
time_of_row done line at says time =
    let one : length done + 1 ≡ suc (length done) = omega arith in
    rw (one, at_seam done line [], says, time) refl
