-- Rows that say a plan which keeps every rule break none themselves.
use Rattle.std.proofs.Common.{◌≡◌, ℕ, ◌+◌, ◌<◌, ◌≤◌, zero, suc, Bool, true, false, ◌&&◌, List, [], ◌∷◌, ◌++◌, length, filter, take, flat_map, Some, None, slice_get, refl, sym, ap, ◌∙◌, inl, inr, arith, append_assoc, length-append}
use Rattle.std.specs.List.{list_all, range_with_len}
use Rattle.std.specs.Str.{bytes_eq}
use Rattle.std.proofs.Math.Bool.{or-true}
use Rattle.std.proofs.lemmas.Bool.{cases_Bool, and_parts, true≢false}
use Rattle.std.proofs.lemmas.List.Folds.{list_all-append}
use Rattle.std.proofs.lemmas.Slice.Eq.{bytes_eq-Decides}
use Rattle.std.proofs.lemmas.Option.{none-some, same_Some}
use Rattle.sync_topo.specs.Names.{is_name, is_named}
use Rattle.sync_topo.specs.WellFormed.{AreDistinct}
use Rattle.sync_topo.specs.Rules.{Rule}
use Rattle.sync_topo.specs.PlanRows.{first_broken, rules_at, each_row}
use Rattle.sync_topo.specs.private.Steps.{rows_from}

-- no rule of two lists is broken where none of either is
pub first_broken-append : (rules more : List Rule) → first_broken rules ≡ None → first_broken more ≡ None → first_broken (rules ++ more) ≡ None
first_broken-append [] more kept others = others
first_broken-append (rule ∷ rules) more kept others =
    elim (cases_Bool rule.broken) [
      | inl broken ↦ absurd (none-some rule.refusal (sym (rw broken at kept)))
      | inr whole ↦ rw whole (first_broken-append rules more (rw whole at kept) others)
    ]

-- what stands in the middle of a list
pub slice_get-middle : {A : Type 0} (xs : List A) (x : A) (ys : List A) → slice_get (xs ++ x ∷ ys) (length xs) ≡ Some x
slice_get-middle [] x ys = refl
slice_get-middle (y ∷ xs) x ys = slice_get-middle xs x ys

pub slice_get-front : {A : Type 0} (xs ys : List A) (i : ℕ) → i < length xs → slice_get (xs ++ ys) i ≡ slice_get xs i
slice_get-front [] ys i h = absurd (omega arith)
slice_get-front (x ∷ xs) ys zero h = refl
slice_get-front (x ∷ xs) ys (suc i) h = slice_get-front xs ys i (omega arith)

-- the rules of the rows one after the other are those of each place
pub take-front : {A : Type 0} (front rest : List A) → take (length front) (front ++ rest) ≡ front
take-front [] rest = refl
take-front (first ∷ front) rest = ap (λ l. first ∷ l) (take-front front rest)

pub rows_from-places : {A : Type 0} (rules : List A → A → List Rule) (behind rows : List A)
    → rows_from rules behind rows ≡ flat_map (rules_at rules (behind ++ rows)) (range_with_len (length behind) (length rows))
rows_from-places rules behind [] = refl
rows_from-places rules behind (row ∷ rows) =
    let here : rules_at rules (behind ++ row ∷ rows) (length behind) ≡ rules behind row
    = rw (slice_get-middle behind row rows, take-front behind (row ∷ rows)) refl in
    let rest : rows_from rules (behind ++ row ∷ []) rows
    ≡ flat_map (rules_at rules ((behind ++ row ∷ []) ++ rows)) (range_with_len (length (behind ++ row ∷ [])) (length rows))
    = rows_from-places rules (behind ++ row ∷ []) rows in
    let whole : (behind ++ row ∷ []) ++ rows ≡ behind ++ row ∷ rows = append_assoc behind (row ∷ []) rows in
    let size : length (behind ++ row ∷ []) ≡ length behind + 1 = length-append behind (row ∷ []) in
    rw (here, rest, whole, size) refl

pub rows_from-each : {A : Type 0} (rules : List A → A → List Rule) (rows : List A) → rows_from rules [] rows ≡ each_row rules rows
rows_from-each rules rows = rows_from-places rules [] rows

-- no row breaks a rule where none does after the rows before it
rows_from-kept : {A : Type 0} (rules : List A → A → List Rule) (behind rows : List A)
    → ((front : List A) (row : A) (rest : List A) → behind ++ rows ≡ front ++ row ∷ rest → first_broken (rules front row) ≡ None)
    → first_broken (rows_from rules behind rows) ≡ None
rows_from-kept rules behind [] kept = refl
rows_from-kept rules behind (row ∷ rows) kept =
    let here : first_broken (rules behind row) ≡ None = kept behind row rows refl in
    let rest : first_broken (rows_from rules (behind ++ row ∷ []) rows) ≡ None
    = rows_from-kept rules (behind ++ row ∷ []) rows (λ front other others split. kept front other others (sym (append_assoc behind (row ∷ []) rows) ∙ split)) in
    first_broken-append (rules behind row) (rows_from rules (behind ++ row ∷ []) rows) here rest

pub each_row-kept : {A : Type 0} (rules : List A → A → List Rule) (rows : List A)
    → ((front : List A) (row : A) (rest : List A) → rows ≡ front ++ row ∷ rest → first_broken (rules front row) ≡ None)
    → first_broken (each_row rules rows) ≡ None
each_row-kept rules rows kept = ap first_broken (sym (rows_from-each rules rows)) ∙ rows_from-kept rules [] rows kept

-- a name is among names where it stands at one of their places
pub is_named-place : (names : List (List ℕ)) (name : List ℕ) → is_named names name ≡ true → (i : ℕ) × (i < length names) × (slice_get names i ≡ Some name)
is_named-place [] name h = absurd (true≢false (sym h))
is_named-place (first ∷ names) name h =
    elim (cases_Bool (bytes_eq name first)) [
      | inl same ↦ (0, omega arith, ap Some (sym ((bytes_eq-Decides name first).0 same)))
      | inr other ↦
          let later = is_named-place names name (rw other at h) in
          (suc later.0, omega (arith, later.1), later.2)
    ]

-- none of the names before one is that one, where no name stands twice
pub AreDistinct-fresh : (front : List (List ℕ)) (name : List ℕ) (rest : List (List ℕ)) → AreDistinct (front ++ name ∷ rest) → is_named front name ≡ false
AreDistinct-fresh front name rest distinct =
    elim (cases_Bool (is_named front name)) [
      | inr fresh ↦ fresh
      | inl named ↦
          let place = is_named-place front name named in
          let size : length (front ++ name ∷ rest) ≡ length front + length (name ∷ rest) = length-append front (name ∷ rest) in
          absurd (distinct place.0 (length front) place.1 (omega (arith, size))
          (slice_get-front front (name ∷ rest) place.0 place.1 ∙ place.2 ∙ sym (slice_get-middle front name rest)))
    ]

-- each of some names is a name
pub list_all-middle : (front : List (List ℕ)) (name : List ℕ) (rest : List (List ℕ)) → list_all is_name (front ++ name ∷ rest) ≡ true → is_name name ≡ true
list_all-middle front name rest all =
    let both : (list_all is_name front && list_all is_name (name ∷ rest)) ≡ true = sym (list_all-append is_name front (name ∷ rest)) ∙ all in
    (and_parts _ _ (and_parts _ _ both).1).0

-- fewer numbers pass a test in a shorter range
pub filter_range-fewer : (p q : ℕ → Bool) (start m n : ℕ) → m ≤ n → ((i : ℕ) → start ≤ i → i < start + m → p i ≡ q i)
    → length (filter p (range_with_len start m)) ≤ length (filter q (range_with_len start n))
filter_range-fewer p q start zero n h same = omega arith
filter_range-fewer p q start (suc m) zero h same = absurd (omega arith)
filter_range-fewer p q start (suc m) (suc n) h same =
    let rest : length (filter p (range_with_len (start + 1) m)) ≤ length (filter q (range_with_len (start + 1) n))
    = filter_range-fewer p q (start + 1) m n (omega arith) (λ i low high. same i (omega arith) (omega arith)) in
    let here : p start ≡ q start = same start (omega arith) (omega arith) in
    elim (cases_Bool (q start)) [
      | inl passes ↦ rw (here, passes) (omega (arith, rest))
      | inr fails ↦ rw (here, fails) rest
    ]

-- a name that stands somewhere in the list is one of its names
pub is_named-at : (names : List (List ℕ)) (name : List ℕ) (i : ℕ) → slice_get names i ≡ Some name → is_named names name ≡ true
is_named-at [] name i at = absurd (none-some name at)
is_named-at (first ∷ names) name zero at = rw ((bytes_eq-Decides name first).1 (sym (same_Some first name at))) refl
is_named-at (first ∷ names) name (suc i) at = rw (is_named-at names name i at) (or-true (bytes_eq name first))
