-- The rows of a case and their events, and those of one row more.
use Rattle.std.proofs.Common.{◌≡◌, ℕ, ◌+◌, ◌<◌, ◌≤◌, zero, suc, Bool, true, false, List, [], ◌∷◌, ◌++◌, length, map, Some, refl, sym, ap, ◌∙◌, inl, inr, arith, append-nil, length-append}
use Rattle.std.specs.Prelude.{filter, slice_get, unwrap_or, option_and_then}
use Rattle.std.specs.Str.{bytes_eq}
use Rattle.std.proofs.Math.Seq.{take-append_seam}
use Rattle.std.proofs.lemmas.Bool.{true≢false, cases_Bool, le-ltb}
use Rattle.std.proofs.lemmas.List.{map-append, take-append-le}
use Rattle.std.proofs.lemmas.Option.{none-some}
use Rattle.std.proofs.lemmas.List.Elements.{filter-append, filter_map-append}
use Rattle.csv_records.specs.Fields.{five_of}
use Rattle.sync_topo.specs.Names.{is_named}
use Rattle.sync_topo.specs.declared.event.Event.{Event}
use Rattle.sync_topo.specs.Topology.{Topology}
use Rattle.sync_topo.specs.Sizes.{event_limit}
use Rattle.event_file.specs.Rows.{Fields, event_in, time_in, row_refusal}
use Rattle.event_file.specs.private.Rows.{event_row}
use Rattle.event_file.specs.EventText.{events_in}
use Rattle.event_file.specs.CaseRows.{case_in, event_fields, rows_of, time_after, may_follow, is_apart, case_refusal, case_refusal_at}
use Rattle.event_file.specs.CaseText.{case_of}
use Rattle.event_file.proofs.Taking.{at_seam}
use Rattle.event_file.proofs.CaseNames.{differ-sym}

-- one row more of the case
pub rows_of-here : (rows : List Fields) (row : Fields) (name : List ℕ) → bytes_eq name (case_in row) ≡ true
    → rows_of (rows ++ row ∷ []) name ≡ rows_of rows name ++ event_fields row ∷ []
rows_of-here rows row name here =
    let is : Fields → Bool = λ other. bytes_eq name (case_in other) in
    let one : map event_fields (filter is (row ∷ [])) ≡ event_fields row ∷ [] = rw here refl in
    ap (map event_fields) (filter-append is rows (row ∷ [])) ∙ map-append event_fields (filter is rows) (filter is (row ∷ [])) ∙ ap (λ more. rows_of rows name ++ more) one

-- and of another
pub rows_of-other : (rows : List Fields) (row : Fields) (name : List ℕ) → bytes_eq name (case_in row) ≡ false
    → rows_of (rows ++ row ∷ []) name ≡ rows_of rows name
rows_of-other rows row name other =
    let is : Fields → Bool = λ other. bytes_eq name (case_in other) in
    let none : map event_fields (filter is (row ∷ [])) ≡ [] = rw other refl in
    ap (map event_fields) (filter-append is rows (row ∷ []))
    ∙ map-append event_fields (filter is rows) (filter is (row ∷ []))
    ∙ ap (λ more. rows_of rows name ++ more) none
    ∙ append-nil (rows_of rows name)

-- a case of which there was no row has none
pub rows_of-none : (rows : List Fields) (name : List ℕ) → is_named (map case_in rows) name ≡ false → rows_of rows name ≡ []
rows_of-none [] name fresh = refl
rows_of-none (row ∷ rows) name fresh = elim (cases_Bool (bytes_eq name (case_in row))) [
  | inl here ↦ absurd (true≢false (sym (rw here refl) ∙ fresh))
  | inr other ↦
      let rest : is_named (map case_in rows) name ≡ false = rw other at fresh in
      rw other (rows_of-none rows name rest)
]

-- the events of one row more
pub events-here : (plan : Topology) (rows : List Fields) (row : Fields) (name : List ℕ) (event : Event) → bytes_eq name (case_in row) ≡ true
    → event_in plan (event_fields row) ≡ Some event → events_in plan (rows_of (rows ++ row ∷ []) name) ≡ events_in plan (rows_of rows name) ++ event ∷ []
events-here plan rows row name event here is =
    let one : events_in plan (event_fields row ∷ []) ≡ event ∷ [] = rw is refl in
    ap (events_in plan) (rows_of-here rows row name here)
    ∙ filter_map-append (event_in plan) (rows_of rows name) (event_fields row ∷ [])
    ∙ ap (λ more. events_in plan (rows_of rows name) ++ more) one

-- cases of other names stay as they are
pub cases-other : (plan : Topology) (rows : List Fields) (row : Fields) (names : List (List ℕ)) → is_named names (case_in row) ≡ false
    → map (case_of plan (rows ++ row ∷ [])) names ≡ map (case_of plan rows) names
cases-other plan rows row [] other = refl
cases-other plan rows row (name ∷ names) other = elim (cases_Bool (bytes_eq (case_in row) name)) [
  | inl here ↦ absurd (true≢false (sym (rw here refl) ∙ other))
  | inr differs ↦
      let rest : is_named names (case_in row) ≡ false = rw differs at other in
      rw (rows_of-other rows row name (differ-sym (case_in row) name differs), cases-other plan rows row names rest) refl
]

-- the time of the last row
pub time_after-more : (rows : List Fields) (row : Fields) (at : ℕ) → time_in row ≡ Some at → time_after (rows ++ row ∷ []) ≡ at
time_after-more rows row at is =
    let size : length (rows ++ row ∷ []) ≡ suc (length rows) = length-append rows (row ∷ []) ∙ omega arith in
    let here : slice_get (rows ++ row ∷ []) (length rows) ≡ Some row = at_seam rows row [] in
    rw size (ap (λ found. unwrap_or (option_and_then time_in found) 0) here ∙ ap (λ time. unwrap_or time 0) is)

-- a row of five fields, by its fields
pub five_row : (row : Fields) (name at word target value : List ℕ) → five_of row ≡ Some (name, at, word, target, value) → row ≡ name ∷ event_row at word target value
five_row (a ∷ b ∷ c ∷ d ∷ e ∷ []) name at word target value is =
    let fields = ap (λ found. unwrap_or found (a, b, c, d, e)) is in
    rw (ap (λ f. f.0) fields, ap (λ f. f.1) fields, ap (λ f. f.2) fields, ap (λ f. f.3) fields, ap (λ f. f.4) fields) refl
five_row [] name at word target value is = absurd (none-some (name, at, word, target, value) is)
five_row (a ∷ []) name at word target value is = absurd (none-some (name, at, word, target, value) is)
five_row (a ∷ b ∷ []) name at word target value is = absurd (none-some (name, at, word, target, value) is)
five_row (a ∷ b ∷ c ∷ []) name at word target value is = absurd (none-some (name, at, word, target, value) is)
five_row (a ∷ b ∷ c ∷ d ∷ []) name at word target value is = absurd (none-some (name, at, word, target, value) is)
five_row (a ∷ b ∷ c ∷ d ∷ e ∷ f ∷ more) name at word target value is = absurd (none-some (name, at, word, target, value) is)

-- a row of a case may break a rule for events alone
pub refusal-said : (plan : Topology) (earlier : List Fields) (n : ℕ) (name at word target value : List ℕ) → n ≤ event_limit plan
    → may_follow earlier name ≡ true → is_apart earlier name ≡ false
    → case_refusal plan earlier n (name ∷ event_row at word target value) ≡ row_refusal plan n (time_after (rows_of earlier name)) (event_row at word target value)
unfolding case_refusal
refusal-said plan earlier n name at word target value few may together = rw (le-ltb (event_limit plan) n few, may, together) refl

-- what stands before a place tells what the row there is refused for
slice_get-front : {A : Type 0} (xs ys : List A) (i : ℕ) → i < length xs → slice_get (xs ++ ys) i ≡ slice_get xs i
slice_get-front [] ys i within = absurd (omega (arith, within))
slice_get-front (x ∷ xs) ys zero within = refl
slice_get-front (x ∷ xs) ys (suc i) within = slice_get-front xs ys i (omega (arith, within))

pub refusal-before : (plan : Topology) (done more : List Fields) (place : ℕ) → place < length done → case_refusal_at plan (done ++ more) place ≡ case_refusal_at plan done place
refusal-before plan done more place within =
    rw (slice_get-front done more place within, take-append-le place done more (omega (arith, within))) refl

pub refusal-here : (plan : Topology) (done : List Fields) (row : Fields) (rest : List Fields)
    → case_refusal_at plan (done ++ row ∷ rest) (length done) ≡ case_refusal plan done (length done + 1) row
refusal-here plan done row rest = rw (at_seam done row rest, take-append_seam done (row ∷ rest)) refl
