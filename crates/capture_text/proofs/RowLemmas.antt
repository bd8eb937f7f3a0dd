-- The parts of a row.
use Rattle.std.proofs.Common.{◌≡◌, ◌≤◌, ◌<◌, ◌==◌, ℕ, ◌+◌, ◌/◌, ◌%◌, ◌^◌, Bool, true, false, not, List, [], ◌∷◌, ◌++◌, length, codes, refl, nat_le, ap, ◌∙◌, arith}
use Rattle.std.specs.Fmt.{decimal, digits}
use Rattle.std.specs.List.{list_all, range_with_len, join_with_byte, All}
use native.Mathlib.Decide.{dec_lt}
use Rattle.std.proofs.lemmas.Bool.{and_parts}
use Rattle.std.proofs.lemmas.Bool.Decides.{nat_tests}
use Rattle.std.proofs.lemmas.Fmt.{decimal_digit, decimal_step}
use Rattle.std.proofs.lemmas.List.Elements.{All-cons}
use Rattle.std.proofs.lemmas.List.Splits.{slice_split_at, slice_split_none}
use Rattle.sync_ql.specs.declared.levels.NetOption.{NetOption}
use Rattle.sync_ql.specs.declared.levels.NetOption.TheVariants.{I, II}
use Rattle.sync_ql.specs.declared.levels.Level.{Level}
use Rattle.sync_ql.specs.Table.{levels_of}
use Rattle.sync_ql.specs.Level.{row_at, name_of}
use Rattle.sync_ql.proofs.Tables.{at_each}
use Rattle.capture_text.specs.Reading.{fields_of}

-- a number below 10 is one digit, one below 100 two, and one below 1000 three
pub one_digit : (number : ℕ) → number < 10 → decimal number ≡ (48 + number) ∷ []
one_digit number small = decimal_digit number small

pub two_digits : (number : ℕ) → 10 ≤ number → number < 100 → decimal number ≡ (48 + number / 10) ∷ (48 + number % 10) ∷ []
two_digits number ten small =
    let tens : number / 10 < 10 = omega arith in
    let fits : number < 2 ^ 64 = omega arith in
    decimal_step number ten fits ∙ rw (decimal_digit (number / 10) tens) refl

pub three_digits : (number : ℕ) → 100 ≤ number → number < 1000 → decimal number ≡ (48 + number / 100) ∷ (48 + number / 10 % 10) ∷ (48 + number % 10) ∷ []
three_digits number hundred small =
    let ten : 10 ≤ number = omega arith in
    let fits : number < 2 ^ 64 = omega arith in
    let tens : 10 ≤ number / 10 = omega arith in
    let few : number / 10 < 100 = omega arith in
    let hundreds : number / 10 / 10 ≡ number / 100 = omega arith in
    decimal_step number ten fits ∙ rw (two_digits (number / 10) tens few, hundreds) refl

has_short_name : NetOption → ℕ → Bool
has_short_name option place = nat_le (length (row_at option place).name) 8

names_are_short : (option : NetOption) → list_all (has_short_name option) (range_with_len 0 (length (levels_of option))) ≡ true
unfolding has_short_name
names_are_short I = refl
names_are_short II = refl

-- a level's name has at most eight letters
pub length_name : (level : Level) → length (name_of level) ≤ 8
unfolding has_short_name
length_name level =
    let short = at_each (has_short_name level.option) (length (levels_of level.option)) level.place (names_are_short level.option) level.is_row in
    grind (arith, nat_tests)

-- a field has no comma
abbrev pub is_field : List ℕ → Bool
is_field text = list_all (λ byte. not (byte == 44)) text

has_field_name : NetOption → ℕ → Bool
has_field_name option place = is_field (row_at option place).name

names_are_fields : (option : NetOption) → list_all (has_field_name option) (range_with_len 0 (length (levels_of option))) ≡ true
unfolding has_field_name
names_are_fields I = refl
names_are_fields II = refl

pub name_is_field : (level : Level) → is_field (name_of level) ≡ true
unfolding has_field_name
name_is_field level = at_each (has_field_name level.option) (length (levels_of level.option)) level.place (names_are_fields level.option) level.is_row

number_is_field : ℕ → Bool
number_is_field code = is_field (codes "code-" ++ decimal code)

numbers_are_fields : list_all number_is_field (range_with_len 0 16) ≡ true
unfolding number_is_field digits dec_lt
numbers_are_fields = refl

pub code_is_field : (code : ℕ) → code < 16 → is_field (codes "code-" ++ decimal code) ≡ true
unfolding number_is_field
code_is_field code small = at_each number_is_field 16 code numbers_are_fields small

count_is_field : ℕ → Bool
count_is_field count = is_field (decimal count)

counts_are_fields : list_all count_is_field (range_with_len 0 256) ≡ true
unfolding count_is_field digits dec_lt
counts_are_fields = refl

pub octet_is_field : (count : ℕ) → count < 256 → is_field (decimal count) ≡ true
unfolding count_is_field
octet_is_field count small = at_each count_is_field 256 count counts_are_fields small

no_comma : (byte : ℕ) → not (byte == 44) ≡ true → (byte == 44) ≡ false
no_comma byte is = grind (arith, nat_tests)

-- texts without a comma
abbrev pub IsField : List ℕ → Type 0
IsField text = All (λ byte. (byte == 44) ≡ false) text

pub field_tested : (text : List ℕ) → is_field text ≡ true → IsField text
field_tested [] is = λ k d within. absurd (omega (arith, within))
field_tested (byte ∷ bytes) is =
    let both = and_parts _ _ is in
    All-cons (λ b. (b == 44) ≡ false) byte bytes (no_comma byte both.0) (field_tested bytes both.1)

abbrev pub AreFields : List (List ℕ) → Type 0
AreFields [] = Unit {0}
AreFields (field ∷ fields) = IsField field × AreFields fields

-- the fields of joined fields are those
pub fields_joined : (field : List ℕ) (fields : List (List ℕ)) → AreFields (field ∷ fields) → fields_of (join_with_byte 44 (field ∷ fields)) ≡ field ∷ fields
fields_joined field [] are = slice_split_none (λ byte. byte == 44) field are.0
fields_joined field (next ∷ fields) are =
    slice_split_at (λ byte. byte == 44) field 44 (join_with_byte 44 (next ∷ fields)) are.0 refl
    ∙ ap (λ rest. field ∷ rest) (fields_joined next fields are.1)
