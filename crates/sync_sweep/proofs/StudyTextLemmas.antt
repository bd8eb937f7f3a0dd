-- The rows of some cases, one after another.
use Rattle.std.proofs.Common.{◌≡◌, ℕ, zero, suc, ◌+◌, ◌<◌, List, [], ◌∷◌, ◌++◌, length, take, get_or, ap, sym, ◌∙◌, append_assoc, arith}
use Rattle.std.proofs.lemmas.List.{append-nil}
use Rattle.sync_topo.specs.Topology.{Topology}
use Rattle.sync_sweep.specs.declared.studying.StudyRow.{StudyRow}
use Rattle.sync_sweep.specs.StudyText.{case_text, cases_text}

-- one case more
pub one-case : (plan : Topology) (names : List (List ℕ)) (rows : List StudyRow) (i : ℕ) (name : List ℕ) (row : StudyRow) → i < length names → i < length rows
    → cases_text plan (take (suc i) names) (take (suc i) rows)
    ≡ cases_text plan (take i names) (take i rows) ++ case_text plan (get_or names i name) (get_or rows i row)
one-case plan [] rows i name row named within = absurd (omega (arith, named))
one-case plan (first ∷ names) [] i name row named within = absurd (omega (arith, within))
one-case plan (first ∷ names) (begin ∷ rows) zero name row named within = append-nil (case_text plan first begin)
one-case plan (first ∷ names) (begin ∷ rows) (suc i) name row named within =
    ap (λ rest. case_text plan first begin ++ rest) (one-case plan names rows i name row (omega (arith, named)) (omega (arith, within)))
    ∙ sym (append_assoc (case_text plan first begin) (cases_text plan (take i names) (take i rows)) (case_text plan (get_or names i name) (get_or rows i row)))

-- so of a text
pub case-put : (plan : Topology) (names : List (List ℕ)) (rows : List StudyRow) (i : ℕ) (name : List ℕ) (row : StudyRow) (old before new : List ℕ)
    → i < length names → i < length rows → before ≡ old ++ cases_text plan (take i names) (take i rows) → name ≡ get_or names i name → row ≡ get_or rows i row
    → new ≡ before ++ case_text plan name row → new ≡ old ++ cases_text plan (take (i + 1) names) (take (i + 1) rows)
case-put plan names rows i name row old before new named within so_far is_name is_row put =
    let more : suc i ≡ i + 1 = omega arith in
    put
    ∙ ap (λ front. front ++ case_text plan name row) so_far
    ∙ append_assoc old (cases_text plan (take i names) (take i rows)) (case_text plan name row)
    ∙ ap (λ n. old ++ (cases_text plan (take i names) (take i rows) ++ case_text plan n row)) is_name
    ∙ ap (λ r. old ++ (cases_text plan (take i names) (take i rows) ++ case_text plan (get_or names i name) r)) is_row
    ∙ ap (λ text. old ++ text) (sym (one-case plan names rows i name row named within))
    ∙ ap (λ n. old ++ cases_text plan (take n names) (take n rows)) more
