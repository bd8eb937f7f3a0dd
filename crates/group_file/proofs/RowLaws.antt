-- What rows say of groups and their parts, and one row more.
use Rattle.std.proofs.Common.{◌≡◌, ℕ, ◌+◌, ◌<◌, zero, suc, Bool, true, false, List, [], ◌∷◌, ◌++◌, length, map, Some, None, refl, sym, ap, ◌∙◌, inl, inr, arith, append-nil, length-append}
use Rattle.std.specs.Prelude.{filter, slice_get, unwrap_or, option_and_then, if◌then◌else◌}
use Rattle.std.specs.List.{filter_map}
use Rattle.std.specs.Str.{bytes_eq}
use Rattle.std.proofs.Math.Seq.{take-append_seam}
use Rattle.std.proofs.lemmas.Bool.{true≢false, cases_Bool, cases_lt}
use Rattle.std.proofs.lemmas.List.{take-append-le}
use Rattle.std.proofs.lemmas.Option.{none-some}
use Rattle.std.proofs.lemmas.List.Elements.{filter-append, filter_map-append}
use Rattle.sync_topo.specs.Names.{is_name, is_named}
use Rattle.sync_topo.specs.Topology.{Topology}
use Rattle.event_file.specs.Rows.{Fields}
use Rattle.event_file.specs.CaseRows.{case_in}
use Rattle.event_file.proofs.Taking.{at_seam}
use Rattle.event_file.proofs.CaseNames.{differ-sym}
use Rattle.group_file.specs.declared.kind.Kind.{Kind}
use Rattle.group_file.specs.Kinds.{is_same_kind}
use Rattle.group_file.specs.Rows.{three_of, part_in, if_of_kind, number_in, parts_in, rows_of, row_refusal, refusal_at}
use Rattle.group_file.specs.GroupText.{group_of}

-- one row more of the group
pub rows_of-here : (rows : List Fields) (row : Fields) (name : List ℕ) → bytes_eq name (case_in row) ≡ true → rows_of (rows ++ row ∷ []) name ≡ rows_of rows name ++ row ∷ []
rows_of-here rows row name here =
    let is : Fields → Bool = λ other. bytes_eq name (case_in other) in
    let one : filter is (row ∷ []) ≡ row ∷ [] = rw here refl in
    filter-append is rows (row ∷ []) ∙ ap (λ more. filter is rows ++ more) one

-- and of another
pub rows_of-other : (rows : List Fields) (row : Fields) (name : List ℕ) → bytes_eq name (case_in row) ≡ false → rows_of (rows ++ row ∷ []) name ≡ rows_of rows name
rows_of-other rows row name other =
    let is : Fields → Bool = λ other. bytes_eq name (case_in other) in
    let none : filter is (row ∷ []) ≡ [] = rw other refl in
    filter-append is rows (row ∷ []) ∙ ap (λ more. filter is rows ++ more) none ∙ append-nil (filter is rows)

-- a group of which there was no row has none
pub rows_of-none : (rows : List Fields) (name : List ℕ) → is_named (map case_in rows) name ≡ false → rows_of rows name ≡ []
rows_of-none [] name fresh = refl
rows_of-none (row ∷ rows) name fresh = elim (cases_Bool (bytes_eq name (case_in row))) [
  | inl here ↦ absurd (true≢false (sym (rw here refl) ∙ fresh))
  | inr other ↦
      let rest : is_named (map case_in rows) name ≡ false = rw other at fresh in
      rw other (rows_of-none rows name rest)
]

-- the parts of one row more
pub parts-here : (plan : Topology) (rows : List Fields) (row : Fields) (name : List ℕ) (kind other : Kind) (part : ℕ) → bytes_eq name (case_in row) ≡ true
    → part_in plan row ≡ Some (kind, part)
    → parts_in plan other (rows_of (rows ++ row ∷ []) name) ≡ parts_in plan other (rows_of rows name) ++ (if is_same_kind kind other then part ∷ [] else [])
parts-here plan rows row name kind other part here is =
    ap (parts_in plan other) (rows_of-here rows row name here)
    ∙ filter_map-append (number_in plan other) (rows_of rows name) (row ∷ [])
    ∙ ap (λ more. parts_in plan other (rows_of rows name) ++ more) one
  where
    by : (same : Bool) → filter_map (λ (row : Fields). if same then Some part else None) (row ∷ []) ≡ (if same then part ∷ [] else [])
    by true = refl
    by false = refl

    given : number_in plan other row ≡ (if is_same_kind kind other then Some part else None)
    given = ap (option_and_then (if_of_kind other)) is

    one : parts_in plan other (row ∷ []) ≡ (if is_same_kind kind other then part ∷ [] else [])
    one = rw given (by (is_same_kind kind other))

-- groups of other names stay as they are
pub groups-other : (plan : Topology) (rows : List Fields) (row : Fields) (names : List (List ℕ)) → is_named names (case_in row) ≡ false
    → map (group_of plan (rows ++ row ∷ [])) names ≡ map (group_of plan rows) names
groups-other plan rows row [] other = refl
groups-other plan rows row (name ∷ names) other = elim (cases_Bool (bytes_eq (case_in row) name)) [
  | inl here ↦ absurd (true≢false (sym (rw here refl) ∙ other))
  | inr differs ↦
      let rest : is_named names (case_in row) ≡ false = rw differs at other in
      rw (rows_of-other rows row name (differ-sym (case_in row) name differs), groups-other plan rows row names rest) refl
]

-- a row of three fields, by its fields
pub three_row : (row : Fields) (name kind part : List ℕ) → three_of row ≡ Some (name, kind, part) → row ≡ name ∷ kind ∷ part ∷ []
three_row (a ∷ b ∷ c ∷ []) name kind part is =
    let fields = ap (λ found. unwrap_or found (a, b, c)) is in
    rw (ap (λ f. f.0) fields, ap (λ f. f.1) fields, ap (λ f. f.2) fields) refl
three_row [] name kind part is = absurd (none-some (name, kind, part) is)
three_row (a ∷ []) name kind part is = absurd (none-some (name, kind, part) is)
three_row (a ∷ b ∷ []) name kind part is = absurd (none-some (name, kind, part) is)
three_row (a ∷ b ∷ c ∷ d ∷ more) name kind part is = absurd (none-some (name, kind, part) is)

-- a name has a byte
pub name-some : (name : List ℕ) → is_name name ≡ true → bytes_eq name [] ≡ false
name-some [] is = cc
name-some (byte ∷ name) is = refl

-- what stands before a place tells what the row there is refused for
slice_get-front : {A : Type 0} (xs ys : List A) (i : ℕ) → i < length xs → slice_get (xs ++ ys) i ≡ slice_get xs i
slice_get-front [] ys i within = absurd (omega (arith, within))
slice_get-front (x ∷ xs) ys zero within = refl
slice_get-front (x ∷ xs) ys (suc i) within = slice_get-front xs ys i (omega (arith, within))

pub refusal-before : (plan : Topology) (done more : List Fields) (place : ℕ) → place < length done → refusal_at plan (done ++ more) place ≡ refusal_at plan done place
refusal-before plan done more place within =
    rw (slice_get-front done more place within, take-append-le place done more (omega (arith, within))) refl

pub refusal-here : (plan : Topology) (done : List Fields) (row : Fields) (rest : List Fields)
    → refusal_at plan (done ++ row ∷ rest) (length done) ≡ row_refusal plan done (length done + 1) row
refusal-here plan done row rest = rw (at_seam done row rest, take-append_seam done (row ∷ rest)) refl

-- one row more breaks no rule
pub sound-more : (plan : Topology) (done : List Fields) (row : Fields) → ((place : ℕ) → place < length done → refusal_at plan done place ≡ None)
    → row_refusal plan done (length done + 1) row ≡ None → (place : ℕ) → place < length (done ++ row ∷ []) → refusal_at plan (done ++ row ∷ []) place ≡ None
sound-more plan done row sound next place within =
    let size : length (done ++ row ∷ []) ≡ length done + 1 = length-append done (row ∷ []) in
    elim (cases_lt place (length done)) [
      | inl before ↦ refusal-before plan done (row ∷ []) place before ∙ sound place before
      | inr not_before ↦
          let same : place ≡ length done = omega (arith, within, size, not_before) in
          ap (refusal_at plan (done ++ row ∷ [])) same ∙ refusal-here plan done row [] ∙ next
    ]
