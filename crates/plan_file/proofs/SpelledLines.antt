-- The lines of fields and of tables are those that `toml` writes.
use Rattle.std.proofs.Common.{◌≡◌, ℕ, ◌*◌, ◌<◌, ◌≤◌, ◌^◌, nat_lt, suc, pos, negsuc, Bool, true, false, List, [], ◌∷◌, ◌++◌, length, map, codes, Some, slice_get, refl, sym, ap, ◌∙◌, lit<, arith, append_assoc, append-nil, length-append}
use Rattle.std.specs.List.{list_all}
use Rattle.std.specs.Fmt.{decimal}
use Rattle.std.specs.Str.{IsAscii}
use Rattle.std.proofs.lemmas.Str.{IsAscii-append}
use Rattle.std.proofs.lemmas.Str.Ascii.{IsAscii-nil, IsAscii-cons}
use Rattle.std.proofs.lemmas.Fmt.{IsAscii-decimal, length-decimal-le}
use Rattle.std.proofs.lemmas.Bool.{and_parts, ltb-true}
use Rattle.sync_topo.proofs.NameLaws.{name-short}
use Rattle.toml_writer.specs.Text.{key_text}
use Rattle.toml.specs.Data.{Data, string, integer, float, boolean, datetime, array, table, no_items, item, Members, no_members, member}
use Rattle.toml.specs.View.{items_of}
use Rattle.toml.specs.Tables.{Expression, key_value}
use Rattle.toml.specs.Text.{IsValueText, IsLinesText, is_section, are_tables, pairs, sections, section, elements}
use Rattle.sync_topo.specs.Names.{is_name}
use Rattle.plan_file.specs.Spelling.{value_text, field_text, fields_text, header_text, row_text, rows_text, field_size, row_size, with_none}
use Rattle.plan_file.proofs.NameText.{key_of_name, string_of_name, ascii_name}

-- ---- fields that are plain: names and small numbers at keys that are names, and arrays without items

abbrev pub IsPlainValue : Data → Type 0
IsPlainValue (string name) = is_name name ≡ true
IsPlainValue (integer (pos number)) = number < 2 ^ 32
IsPlainValue (array no_items) = Unit {0}
IsPlainValue value = ⊥

abbrev pub ArePlain : Members → Type 0
ArePlain no_members = Unit {0}
ArePlain (member key value rest) = (is_name key ≡ true) × (IsPlainValue value × ArePlain rest)

by_value : (P : Data → Type 0) → ((name : List ℕ) → is_name name ≡ true → P (string name)) → ((number : ℕ) → number < 2 ^ 32 → P (integer (pos number)))
    → P (array no_items) → (value : Data) → IsPlainValue value → P value
by_value P of_name of_number of_none (string name) plain = of_name name plain
by_value P of_name of_number of_none (integer (pos number)) plain = of_number number plain
by_value P of_name of_number of_none (integer (negsuc number)) plain = absurd plain
by_value P of_name of_number of_none (float x) plain = absurd plain
by_value P of_name of_number of_none (boolean b) plain = absurd plain
by_value P of_name of_number of_none (datetime dt) plain = absurd plain
by_value P of_name of_number of_none (array no_items) plain = of_none
by_value P of_name of_number of_none (array (item d ds)) plain = absurd plain
by_value P of_name of_number of_none (table ms) plain = absurd plain

-- a value as it stands in its line
abbrev IsSpelled : Data → Type 0
IsSpelled value = (this : List ℕ) × (value_text value ≡ this ++ codes "\n") × IsValueText false value this × (is_section value ≡ false)

spelled_value : (value : Data) → IsPlainValue value → IsSpelled value
spelled_value = by_value IsSpelled
    (λ name named. (codes "\"" ++ (name ++ codes "\""), ap (λ t. codes "\"" ++ t) (sym (append_assoc name (codes "\"") (codes "\n"))), sym (string_of_name name named), refl))
    (λ number small. (decimal number, refl, (refl, omega (arith, small)), refl))
    (codes "[]", refl, (codes "]", refl, refl), refl)

-- a line
line_is : (key this value name : List ℕ) → value ≡ this ++ codes "\n" → name ≡ key → key ++ (codes " = " ++ value) ≡ name ++ (codes " = " ++ (this ++ codes "\n"))
line_is key this value name is same = rw (is, same) refl

pub field_lines : (started : Bool) (fields : Members) → ArePlain fields → IsLinesText false started (pairs fields) (fields_text fields)
field_lines started no_members plain = refl
field_lines started (member key value rest) plain =
    let (this, is, text, pair) = spelled_value value plain.1.0 in
    rw pair
    (field_text key value, fields_text rest, refl, (this, line_is key this (value_text value) (key_text key) is (key_of_name key plain.0), text), field_lines true rest plain.1.1)

-- plain fields have no tables inside
pub no_sections : (path : List (List ℕ)) (fields : Members) → ArePlain fields → sections path fields ≡ []
no_sections path no_members plain = refl
no_sections path (member key value rest) plain =
    let more = no_sections path rest plain.1.1 in
    by_value (λ v. section (path, key) v ++ sections path rest ≡ []) (λ name named. more) (λ number small. more) more value plain.1.0

-- ---- lines one after another

pub more_lines : (es fs : List Expression) (t u : List ℕ) → IsLinesText false true es t → IsLinesText false true fs u → IsLinesText false true (es ++ fs) (t ++ u)
more_lines [] fs t u first second = rw first second
more_lines (e ∷ es) fs t u first second =
    let (this, rest, whole, line, lines) = first in
    (this, rest ++ u, ap (λ s. s ++ u) whole ∙ append_assoc this rest u, line, more_lines es fs rest u lines second)

-- after a first line
pub lines_after : (es fs : List Expression) (t u : List ℕ) → 0 < length es → IsLinesText false false es t → IsLinesText false true fs u → IsLinesText false false (es ++ fs) (t ++ u)
lines_after [] fs t u some first second = absurd (omega (arith, some))
lines_after (e ∷ es) fs t u some first second =
    let (this, rest, whole, line, lines) = first in
    (this, rest ++ u, ap (λ s. s ++ u) whole ∙ append_assoc this rest u, line, more_lines es fs rest u lines second)

-- ---- the tables of a section

abbrev pub RowsArePlain : {A : Type 0} → (A → Members) → List A → Type 0
RowsArePlain {A} fields items = (i : ℕ) (item : A) → slice_get items i ≡ Some item → ArePlain (fields item)

pub row_lines : {A : Type 0} (key : List ℕ) (fields : A → Members) (items : List A) → is_name key ≡ true → RowsArePlain fields items
    → IsLinesText false true (elements ([], key) (items_of (map (λ x. table (fields x)) items))) (rows_text key fields items)
row_lines key fields [] named plain = refl
row_lines key fields (x ∷ xs) named plain =
    let here = plain 0 x refl in
    let rest = row_lines key fields xs named (λ i other at. plain (suc i) other at) in
    let lines : IsLinesText false true (pairs (fields x) ++ sections (key ∷ []) (fields x)) (fields_text (fields x))
    = rw (no_sections (key ∷ []) (fields x) here, append-nil (pairs (fields x))) (field_lines true (fields x) here) in (
      header_text key,
      fields_text (fields x) ++ rows_text key fields xs,
      append_assoc (header_text key) (fields_text (fields x)) (rows_text key fields xs),
      header_is (key_of_name key named),
      more_lines (pairs (fields x) ++ sections (key ∷ []) (fields x)) (elements ([], key) (items_of (map (λ y. table (fields y)) xs))) (fields_text (fields x)) (rows_text key fields xs) lines rest,
    )
  where
    header_is : key_text key ≡ key → header_text key ≡ codes "\n" ++ (codes "[[" ++ (key_text key ++ codes "]]\n"))
    header_is same = rw same refl

pub tables_are : {A : Type 0} (fields : A → Members) (items : List A) → are_tables (items_of (map (λ x. table (fields x)) items)) ≡ true
tables_are fields [] = refl
tables_are fields (x ∷ xs) = tables_are fields xs

abbrev pub count_of : Members → ℕ
count_of no_members = 0
count_of (member key value rest) = suc (count_of rest)

-- a section with tables is none of the head's lines, and one without is an array without items there
pub pairs_with : {A : Type 0} (key : List ℕ) (fields : A → Members) (items : List A) (rest other : Members) → pairs rest ≡ pairs other
    → pairs (member key (array (items_of (map (λ x. table (fields x)) items))) rest) ≡ pairs (with_none key items other)
pairs_with key fields [] rest other same = ap (λ es. (([], key), key_value (array no_items)) ∷ es) same
pairs_with key fields (x ∷ xs) rest other same = rw (tables_are fields xs) same

pub section_with : {A : Type 0} (key : List ℕ) (fields : A → Members) (items : List A) (rest : Members) (more : List Expression) → sections [] rest ≡ more
    → sections [] (member key (array (items_of (map (λ x. table (fields x)) items))) rest) ≡ elements ([], key) (items_of (map (λ x. table (fields x)) items)) ++ more
section_with key fields items rest more same = rw (tables_are fields items) (ap (λ es. elements ([], key) (items_of (map (λ x. table (fields x)) items)) ++ es) same)

pub with_none_plain : {A : Type 0} (key : List ℕ) (items : List A) (rest : Members) → is_name key ≡ true → ArePlain rest → ArePlain (with_none key items rest)
with_none_plain key [] rest named plain = (named, (tt, plain))
with_none_plain key (x ∷ xs) rest named plain = plain

pub with_none_few : {A : Type 0} (key : List ℕ) (items : List A) (rest : Members) → count_of (with_none key items rest) ≤ suc (count_of rest)
with_none_few key [] rest = omega arith
with_none_few key (x ∷ xs) rest = omega arith

-- ---- ASCII

ascii_of : (bytes : List ℕ) → list_all (λ byte. nat_lt byte 128) bytes ≡ true → IsAscii bytes
ascii_of [] all = IsAscii-nil
ascii_of (byte ∷ bytes) all =
    let parts = and_parts (nat_lt byte 128) (list_all (λ b. nat_lt b 128) bytes) all in
    IsAscii-cons byte bytes (ltb-true byte 128 parts.0) (ascii_of bytes parts.1)

value_ascii : (value : Data) → IsPlainValue value → IsAscii (value_text value)
value_ascii = by_value (λ value. IsAscii (value_text value))
    (λ name named. IsAscii-append (codes "\"") (name ++ codes "\"\n") (ascii_of (codes "\"") refl) (IsAscii-append name (codes "\"\n") (ascii_name name named) (ascii_of (codes "\"\n") refl)))
    (λ number small. IsAscii-append (decimal number) (codes "\n") (IsAscii-decimal number (omega (arith, small))) (ascii_of (codes "\n") refl))
    (ascii_of (codes "[]\n") refl)

field_ascii : (key : List ℕ) (value : Data) → is_name key ≡ true → IsPlainValue value → IsAscii (field_text key value)
field_ascii key value named plain =
    IsAscii-append key (codes " = " ++ value_text value) (ascii_name key named) (IsAscii-append (codes " = ") (value_text value) (ascii_of (codes " = ") refl) (value_ascii value plain))

pub fields_ascii : (fields : Members) → ArePlain fields → IsAscii (fields_text fields)
fields_ascii no_members plain = IsAscii-nil
fields_ascii (member key value rest) plain =
    IsAscii-append (field_text key value) (fields_text rest) (field_ascii key value plain.0 plain.1.0) (fields_ascii rest plain.1.1)

header_ascii : (key : List ℕ) → is_name key ≡ true → IsAscii (header_text key)
header_ascii key named =
    IsAscii-append (codes "\n[[") (key ++ codes "]]\n") (ascii_of (codes "\n[[") refl) (IsAscii-append key (codes "]]\n") (ascii_name key named) (ascii_of (codes "]]\n") refl))

pub rows_ascii : {A : Type 0} (key : List ℕ) (fields : A → Members) (items : List A) → is_name key ≡ true → RowsArePlain fields items → IsAscii (rows_text key fields items)
rows_ascii key fields [] named plain = IsAscii-nil
rows_ascii key fields (x ∷ xs) named plain =
    IsAscii-append (row_text key (fields x)) (rows_text key fields xs)
    (IsAscii-append (header_text key) (fields_text (fields x)) (header_ascii key named) (fields_ascii (fields x) (plain 0 x refl)))
    (rows_ascii key fields xs named (λ i other at. plain (suc i) other at))

-- ---- length

value_short : (value : Data) → IsPlainValue value → length (value_text value) ≤ 35
value_short = by_value (λ value. length (value_text value) ≤ 35)
    (λ name named. omega (arith, name-short name named, length-append name (codes "\"\n")))
    (λ number small. digits_short number (length-decimal-le 10 number (lit< tt) (omega (arith, small)) (omega (arith, small))))
    (omega arith)
  where
    digits_short : (number : ℕ) → length (decimal number) ≤ 10 → length (decimal number ++ codes "\n") ≤ 35
    digits_short number few = omega (arith, few, length-append (decimal number) (codes "\n"))

pub fields_short : (fields : Members) → ArePlain fields → length (fields_text fields) ≤ count_of fields * field_size
fields_short no_members plain = omega arith
fields_short (member key value rest) plain =
    let name = name-short key plain.0 in
    let here = value_short value plain.1.0 in
    let more = fields_short rest plain.1.1 in
    omega (arith, name, here, more, length-append key (codes " = " ++ value_text value), length-append (field_text key value) (fields_text rest))

row_short : (key : List ℕ) (fields : Members) (count : ℕ) → is_name key ≡ true → ArePlain fields → count_of fields ≤ count → length (row_text key fields) ≤ row_size count
row_short key fields count named plain few =
    omega (arith, name-short key named, fields_short fields plain, few, length-append key (codes "]]\n"), length-append (header_text key) (fields_text fields))

pub rows_short : {A : Type 0} (key : List ℕ) (fields : A → Members) (items : List A) (count : ℕ) → is_name key ≡ true → RowsArePlain fields items
    → ((item : A) → count_of (fields item) ≤ count) → length (rows_text key fields items) ≤ length items * row_size count
rows_short key fields [] count named plain few = omega arith
rows_short key fields (x ∷ xs) count named plain few =
    let here = row_short key (fields x) count named (plain 0 x refl) (few x) in
    let more = rows_short key fields xs count named (λ i other at. plain (suc i) other at) few in
    omega (arith, here, more, length-append (row_text key (fields x)) (rows_text key fields xs))
