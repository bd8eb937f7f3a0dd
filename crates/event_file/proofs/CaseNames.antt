-- The names of the cases of some rows, and of one row more.
use Rattle.std.proofs.Common.{◌≡◌, ℕ, Bool, true, false, List, [], ◌∷◌, ◌++◌, map, Option, Some, None, refl, sym, ap, ◌∙◌, inl, inr}
use Rattle.std.specs.Prelude.{◌||◌, ◌≢◌, unwrap_or, if◌then◌else◌}
use Rattle.std.specs.List.{list_all, last_or}
use Rattle.std.specs.Str.{bytes_eq}
use Rattle.std.proofs.Math.Bool.{or_comm}
use Rattle.std.proofs.lemmas.Bool.{true≢false, cases_Bool}
use Rattle.std.proofs.lemmas.List.{map-append}
use Rattle.std.proofs.lemmas.Slice.Eq.{bytes_eq-Decides}
use Rattle.sync_topo.specs.Names.{is_named}
use Rattle.event_file.specs.Rows.{Fields}
use Rattle.event_file.specs.CaseRows.{case_in, is_common, case_before}
use Rattle.event_file.specs.CaseText.{names_after, names_of}

-- equal texts, and texts that differ
pub same_text : (a b : List ℕ) → bytes_eq a b ≡ true → a ≡ b
same_text a b same = (bytes_eq-Decides a b).0 same

pub itself : (a : List ℕ) → bytes_eq a a ≡ true
itself a = (bytes_eq-Decides a a).1 refl

pub differ : (a b : List ℕ) → a ≢ b → bytes_eq a b ≡ false
differ a b other = elim (cases_Bool (bytes_eq a b)) [
  | inl same ↦ absurd (other (same_text a b same))
  | inr apart ↦ apart
]

pub apart : (a b : List ℕ) → bytes_eq a b ≡ false → a ≢ b
apart a b other same = true≢false (sym ((bytes_eq-Decides a b).1 same) ∙ other)

pub differ-sym : (a b : List ℕ) → bytes_eq a b ≡ false → bytes_eq b a ≡ false
differ-sym a b other = differ b a (λ same. apart a b other (sym same))

-- the last of some texts, after another
abbrev last_after : List ℕ → List (List ℕ) → List ℕ
last_after before names = unwrap_or (last_or (Some before) names) []

last_or-more : (found : Option (List ℕ)) (names : List (List ℕ)) (name : List ℕ) → last_or found (names ++ name ∷ []) ≡ Some name
last_or-more found [] name = refl
last_or-more found (first ∷ names) name = last_or-more (Some first) names name

-- the case of the last row
pub case_before-more : (rows : List Fields) (row : Fields) → case_before (rows ++ row ∷ []) ≡ case_in row
case_before-more rows row =
    ap (λ names. unwrap_or (last_or None names) []) (map-append case_in rows (row ∷ []))
    ∙ ap (λ found. unwrap_or found []) (last_or-more None (map case_in rows) (case_in row))

case_before-after : (rows : List Fields) → case_before rows ≡ last_after [] (map case_in rows)
case_before-after [] = refl
case_before-after (row ∷ rows) = refl

-- after common rows alone
pub case_before-common : (rows : List Fields) → list_all is_common rows ≡ true → case_before rows ≡ []
case_before-common rows common = case_before-after rows ∙ all rows common
  where
    all : (rows : List Fields) → list_all is_common rows ≡ true → last_after [] (map case_in rows) ≡ []
    all [] common = refl
    all (row ∷ rows) common = elim (cases_Bool (is_common row)) [
      | inl is ↦
          let rest : list_all is_common rows ≡ true = rw is at common in
          rw (same_text (case_in row) [] is) (all rows rest)
      | inr other ↦ absurd (true≢false (sym common ∙ rw other refl))
    ]

-- one row more: its case, where it isn't that of the row before
abbrev begun_by : List ℕ → List ℕ → List (List ℕ)
begun_by name before = if bytes_eq name before then [] else name ∷ []

names_after-more : (before : List ℕ) (rows : List Fields) (row : Fields)
    → names_after before (rows ++ row ∷ []) ≡ names_after before rows ++ begun_by (case_in row) (last_after before (map case_in rows))
names_after-more before [] row = refl
names_after-more before (first ∷ rows) row = elim (cases_Bool (bytes_eq (case_in first) before)) [
  | inl same ↦
      let here : case_in first ≡ before = same_text (case_in first) before same in
      rw same (names_after-more before rows row ∙ ap (λ other. names_after before rows ++ begun_by (case_in row) (last_after other (map case_in rows))) (sym here))
  | inr other ↦ rw other (ap (λ names. case_in first ∷ names) (names_after-more (case_in first) rows row))
]

pub names_of-more : (rows : List Fields) (row : Fields)
    → names_of (rows ++ row ∷ []) ≡ names_of rows ++ (if bytes_eq (case_in row) (case_before rows) then [] else case_in row ∷ [])
names_of-more rows row =
    names_after-more [] rows row ∙ ap (λ before. names_of rows ++ begun_by (case_in row) before) (sym (case_before-after rows))

-- a name that isn't empty is one of the names of cases where some row has it
one_more : (n m c b : Bool) → (n || c) ≡ (m || c) → ((c || n) || b) ≡ ((c || m) || b)
one_more n m c b same = ap (λ x. x || b) (or_comm c n ∙ same ∙ or_comm m c)

once_more : (n m b : Bool) → (n || b) ≡ (m || b) → (n || b) ≡ ((b || m) || b)
once_more n m true same = same ∙ or_comm m true
once_more n m false same = same

names_after-named : (before : List ℕ) (rows : List Fields) (name : List ℕ)
    → (is_named (names_after before rows) name || bytes_eq name before) ≡ (is_named (map case_in rows) name || bytes_eq name before)
names_after-named before [] name = refl
names_after-named before (first ∷ rows) name = elim (cases_Bool (bytes_eq (case_in first) before)) [
  | inl same ↦
      rw (same, same_text (case_in first) before same)
      (once_more (is_named (names_after before rows) name) (is_named (map case_in rows) name) (bytes_eq name before) (names_after-named before rows name))
  | inr other ↦
      rw other
      (one_more (is_named (names_after (case_in first) rows) name) (is_named (map case_in rows) name) (bytes_eq name (case_in first)) (bytes_eq name before)
      (names_after-named (case_in first) rows name))
]

or_false : (b : Bool) → (b || false) ≡ b
or_false true = refl
or_false false = refl

pub names_of-named : (rows : List Fields) (name : List ℕ) → bytes_eq name [] ≡ false → is_named (names_of rows) name ≡ is_named (map case_in rows) name
names_of-named rows name some =
    sym (or_false (is_named (names_of rows) name))
    ∙ ap (λ empty. is_named (names_of rows) name || empty) (sym some)
    ∙ names_after-named [] rows name
    ∙ ap (λ empty. is_named (map case_in rows) name || empty) some
    ∙ or_false (is_named (map case_in rows) name)
