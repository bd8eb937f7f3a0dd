-- The records of texts that are known from outside. The first five are the examples of RFC 4180, section 2.
use Rattle.std.specs.Prelude.{◌≡◌, ◌∷◌, ◌++◌, [], codes, refl}
use Rattle.csv.specs.Machine.{next_record}
use Rattle.csv.specs.Reading.{records_from, strip_bom}
use Rattle.csv_records.specs.Records.{records_of}

pub each_record_is_a_line : records_of (codes "aaa,bbb,ccc\r\nzzz,yyy,xxx\r\n")
    ≡ (codes "aaa" ∷ codes "bbb" ∷ codes "ccc" ∷ []) ∷ (codes "zzz" ∷ codes "yyy" ∷ codes "xxx" ∷ []) ∷ []
unfolding records_of next_record records_from strip_bom
each_record_is_a_line = refl

pub last_line_needs_no_end : records_of (codes "aaa,bbb,ccc\r\nzzz,yyy,xxx")
    ≡ (codes "aaa" ∷ codes "bbb" ∷ codes "ccc" ∷ []) ∷ (codes "zzz" ∷ codes "yyy" ∷ codes "xxx" ∷ []) ∷ []
unfolding records_of next_record records_from strip_bom
last_line_needs_no_end = refl

pub spaces_are_part_of_a_field : records_of (codes " a , b ") ≡ (codes " a " ∷ codes " b " ∷ []) ∷ []
unfolding records_of next_record records_from strip_bom
spaces_are_part_of_a_field = refl

pub quoted_field_may_hold_a_line_end : records_of (codes "\"a\",\"b\r\nb\",\"c,c\"") ≡ (codes "a" ∷ codes "b\r\nb" ∷ codes "c,c" ∷ []) ∷ []
unfolding records_of next_record records_from strip_bom
quoted_field_may_hold_a_line_end = refl

pub doubled_quote_is_one : records_of (codes "\"a\",\"b\"\"b\"") ≡ (codes "a" ∷ codes "b\"b" ∷ []) ∷ []
unfolding records_of next_record records_from strip_bom
doubled_quote_is_one = refl

-- and what this project takes from `csv` where RFC 4180 is silent
pub no_bytes_have_no_record : records_of [] ≡ []
unfolding records_of next_record records_from strip_bom
no_bytes_have_no_record = refl

pub byte_order_mark_is_passed_over : records_of ((239 ∷ 187 ∷ 191 ∷ []) ++ codes "a,b") ≡ (codes "a" ∷ codes "b" ∷ []) ∷ []
unfolding records_of next_record records_from strip_bom
byte_order_mark_is_passed_over = refl

pub blank_lines_are_no_records : records_of (codes "\n\na\r\n\r\nb\n\n") ≡ (codes "a" ∷ []) ∷ (codes "b" ∷ []) ∷ []
unfolding records_of next_record records_from strip_bom
blank_lines_are_no_records = refl

pub carriage_return_ends_a_record : records_of (codes "a\rb\r") ≡ (codes "a" ∷ []) ∷ (codes "b" ∷ []) ∷ []
unfolding records_of next_record records_from strip_bom
carriage_return_ends_a_record = refl

pub two_quotes_are_an_empty_field : records_of (codes "\"\"\n") ≡ ([] ∷ []) ∷ []
unfolding records_of next_record records_from strip_bom
two_quotes_are_an_empty_field = refl

pub quote_inside_a_field_is_text : records_of (codes "a\"b\",c") ≡ (codes "a\"b\"" ∷ codes "c" ∷ []) ∷ []
unfolding records_of next_record records_from strip_bom
quote_inside_a_field_is_text = refl

pub text_after_a_quoted_field_is_joined : records_of (codes "\"a\"b,c") ≡ (codes "ab" ∷ codes "c" ∷ []) ∷ []
unfolding records_of next_record records_from strip_bom
text_after_a_quoted_field_is_joined = refl

pub open_quote_runs_to_the_end : records_of (codes "a,\"b\nc,d\n") ≡ (codes "a" ∷ codes "b\nc,d\n" ∷ []) ∷ []
unfolding records_of next_record records_from strip_bom
open_quote_runs_to_the_end = refl

pub records_may_differ_in_length : records_of (codes "a\nb,c\n,\n") ≡ (codes "a" ∷ []) ∷ (codes "b" ∷ codes "c" ∷ []) ∷ ([] ∷ [] ∷ []) ∷ []
unfolding records_of next_record records_from strip_bom
records_may_differ_in_length = refl
