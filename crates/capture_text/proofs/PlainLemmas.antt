-- Frames without an extended QL TLV, by the digits of their sources.
use Rattle.std.proofs.Common.{◌≡◌, ◌<◌, ◌==◌, ◌&&◌, ◌||◌, ℕ, zero, suc, ◌+◌, ◌-◌, ◌*◌, ◌/◌, ◌%◌, Bool, true, false, not, List, [], ◌∷◌, ◌++◌, length, take, drop, replicate, slice_index, codes, nat_lt, refl, Option, None, Some, IfSome, Ok, sym, ap, subst, ◌∙◌, append_assoc, arith, lit<}
use Rattle.std.specs.Prelude.{if◌then◌else◌}
use Rattle.std.specs.List.{list_all, range_with_len}
use Rattle.std.specs.Result.{result_unwrap_or}
use Rattle.std.proofs.lemmas.Bool.{and_parts, ltb-true, eqb-true}
use Rattle.std.proofs.lemmas.Bool.Decides.{nat_tests}
use Rattle.std.proofs.lemmas.List.Splits.{slice_split_none}
use Rattle.hex.specs.Hex.{IsBytes, decode_of, decode_sized, encode_lower, encode_with, lower_digits}
use Rattle.hex.proofs.HexLemmas.{decode_of-encode_lower, decode_sized-encode_lower}
use Rattle.sync_ql.specs.declared.levels.NetOption.{NetOption}
use Rattle.sync_ql.specs.Table.{not_enhanced}
use Rattle.sync_ql.proofs.Tables.{at_each}
use Rattle.esmc_frame.specs.declared.frame.Pdu.{Pdu}
use Rattle.esmc_frame.specs.Frame.{version_and_flag, written_frame}
use Rattle.esmc_frame.specs.Parts.{slow_protocols_address}
use Rattle.capture_text.specs.declared.reading.Codes.{Codes}
use Rattle.capture_text.specs.Capture.{carried_at}
use Rattle.capture_text.specs.Reading.{fields_of, codes_of_text, pdu_of}
use Rattle.capture_text.specs.private.Steps.{kind_and_rest}
use Rattle.capture_text.specs.private.Plain.{is_lower_digit, flag_digits, octets_of, IsSource, plain_pdu}
use Rattle.capture_text.proofs.CodeLemmas.{text_stands_for}
use Rattle.capture_text.proofs.ReadingLemmas.{level_text_is_field}
use Rattle.capture_text.proofs.StepLemmas.{pdu_by_steps}
use Rattle.capture_text.proofs.RoundTrip.{carried}

-- the value of a digit as it is written, of which it is the digit
digit_value : ℕ → ℕ
digit_value byte = if nat_lt byte 58 then byte - 48 else byte - 87

is_written : ℕ → Bool
is_written byte = not (is_lower_digit byte) || (nat_lt (digit_value byte) 16 && slice_index lower_digits (digit_value byte) == byte)

all_written : list_all is_written (range_with_len 0 103) ≡ true
unfolding is_written digit_value
all_written = refl

digit_written : (byte : ℕ) → is_lower_digit byte ≡ true → (digit_value byte < 16) × (slice_index lower_digits (digit_value byte) ≡ byte)
unfolding is_written
digit_written byte is =
    let small : byte < 103 = grind (arith, nat_tests) in
    let here : (not (is_lower_digit byte) || (nat_lt (digit_value byte) 16 && slice_index lower_digits (digit_value byte) == byte)) ≡ true = at_each is_written 103 byte all_written small in
    let parts = and_parts _ _ (rw is at here) in
    (ltb-true _ _ parts.0, eqb-true _ _ parts.1)

-- such digits are those of octets
record Written (digits : List ℕ) (n : ℕ) : Type 0 where
  octets : List ℕ
  written : encode_lower octets ≡ digits
  size : length octets ≡ n
  are : IsBytes octets

one_more : (octet : ℕ) (octets : List ℕ) → octet < 256 → IsBytes octets → IsBytes (octet ∷ octets)
one_more octet octets small are zero = small
one_more octet octets small are (suc i) = are i

written_for : (n : ℕ) (digits : List ℕ) → length digits ≡ 2 * n → list_all is_lower_digit digits ≡ true → Written digits n
unfolding encode_with
written_for zero [] len all = record { octets = []; written = refl; size = refl; are = λ i. lit< tt }
written_for zero (high ∷ digits) len all = absurd (omega (arith, len))
written_for (suc n) [] len all = absurd (omega (arith, len))
written_for (suc n) (high ∷ []) len all = absurd (omega (arith, len))
written_for (suc n) (high ∷ low ∷ digits) len all =
    let first = and_parts _ _ all in
    let second = and_parts _ _ first.1 in
    let a = digit_written high first.0 in
    let b = digit_written low second.0 in
    let others = written_for n digits (omega (arith, len)) second.1 in
    let octet : ℕ = digit_value high * 16 + digit_value low in
    let small_high = a.0 in
    let small_low = b.0 in
    let upper : octet / 16 ≡ digit_value high = omega (arith, small_high, small_low) in
    let lower : octet % 16 ≡ digit_value low = omega (arith, small_high, small_low) in
    record {
      octets = octet ∷ others.octets;
      written = rw (upper, lower, a.1, b.1, others.written) refl;
      size = ap suc others.size;
      are = one_more octet others.octets (omega (arith, small_high, small_low)) others.are;
    }

pub is_source : (digits : List ℕ) → length digits ≡ 12 → list_all is_lower_digit digits ≡ true → IsSource digits
unfolding octets_of
is_source digits twelve all =
    let found = written_for 6 digits twelve all in
    let decoded : decode_of digits ≡ Ok found.octets = ap decode_of (sym found.written) ∙ decode_of-encode_lower found.octets found.are in
    let same : octets_of digits ≡ found.octets = ap (λ given. result_unwrap_or given []) decoded in
    record {
      written = ap encode_lower same ∙ found.written;
      six = ap length same ∙ found.size;
      octets = subst IsBytes (sym same) found.are;
    }

-- the digits of the frame, part by part
encode_with-append : (t xs ys : List ℕ) → encode_with t (xs ++ ys) ≡ encode_with t xs ++ encode_with t ys
unfolding encode_with
encode_with-append t [] ys = refl
encode_with-append t (x ∷ xs) ys = rw (encode_with-append t xs ys) refl

-- what stands behind the source, and its digits
abbrev octets_behind : Bool → ℕ → List ℕ
octets_behind event code =
    136 ∷ 9 ∷ 10 ∷ 0 ∷ 25 ∷ 167 ∷ 0 ∷ 1 ∷ version_and_flag event ∷ 0 ∷ 0 ∷ 0 ∷ 1 ∷ 0 ∷ 4 ∷ code ∷ replicate 32 0

abbrev digits_behind : Bool → ℕ → List ℕ
digits_behind event code =
    codes "88090a0019a70001" ++ (flag_digits event ++ (codes "000000010004" ++ 48 ∷ slice_index lower_digits code ∷ replicate 64 48))

behind_written : (event : Bool) (code : ℕ) → code / 16 ≡ 0 → code % 16 ≡ code → encode_lower (octets_behind event code) ≡ digits_behind event code
unfolding encode_with
behind_written true code none all = rw (none, all) refl
behind_written false code none all = rw (none, all) refl

pub frame_by_parts : (source : List ℕ) (event : Bool) (code : ℕ) → IsSource source → code < 16 → ((((((codes "0180c2000002" ++ source) ++ codes "88090a0019a70001") ++ flag_digits event) ++ codes "000000010004") ++ 48 ∷ slice_index lower_digits code ∷ []) ++ replicate 64 48) ≡ encode_lower (written_frame (plain_pdu source event code))
unfolding encode_with
frame_by_parts source event code is small =
    let none : code / 16 ≡ 0 = omega (arith, small) in
    let all : code % 16 ≡ code = omega (arith, small) in
    let front = octets_of source in
    let behind = octets_behind event code in
    let digits : encode_lower (front ++ behind) ≡ source ++ digits_behind event code =
    encode_with-append lower_digits front behind ∙ rw (is.written, behind_written event code none all) refl in
    let frame : written_frame (plain_pdu source event code) ≡ slow_protocols_address ++ (front ++ behind) = simp append_assoc refl in
    let left : ((((((codes "0180c2000002" ++ source) ++ codes "88090a0019a70001") ++ flag_digits event) ++ codes "000000010004") ++ 48 ∷ slice_index lower_digits code ∷ []) ++ replicate 64 48) ≡ codes "0180c2000002" ++ (source ++ digits_behind event code) = simp append_assoc refl in
    left ∙ ap (λ digits. codes "0180c2000002" ++ digits) (sym digits) ∙ ap encode_lower (sym frame)

-- what the frame carries
pub plain_carried : (source : List ℕ) (event : Bool) (code : ℕ) → IsSource source → code < 16 → (n : ℕ) → carried_at n (encode_lower (written_frame (plain_pdu source event code))) ≡ Ok (plain_pdu source event code)
plain_carried source event code is small n =
    carried n (plain_pdu source event code) (record { six = is.six; octets = is.octets; small = small; behind = tt; enhanced = tt })

-- what a row says with nothing behind the level
said : (option : NetOption) (row level : List ℕ) (event : Bool) (both : Codes) → IsSource (take 12 row) → kind_and_rest (drop 12 row) ≡ Some (event, level) → codes_of_text option level ≡ Some both → both.enhanced ≡ not_enhanced → pdu_of option row ≡ Some (plain_pdu (take 12 row) event both.code)
said option row level event both is kind named alone =
    let octets : decode_sized (take 12 row) 6 ≡ Ok (octets_of (take 12 row)) =
    ap (λ digits. decode_sized digits 6) (sym is.written) ∙ decode_sized-encode_lower (octets_of (take 12 row)) 6 is.six is.octets in
    let text = text_stands_for option level both named in
    let fields : fields_of level ≡ level ∷ [] = slice_split_none (λ byte. byte == 44) level (level_text_is_field option level both text) in
    pdu_by_steps option row ∙ rw (octets, kind, fields, named, alone) refl

pub plain_said : (option : NetOption) (row source level : List ℕ) (event : Bool) (both : Codes) → source ≡ take 12 row → kind_and_rest (drop 12 row) ≡ Some (event, level) → codes_of_text option level ≡ Some both → both.enhanced ≡ not_enhanced → (found : Option Pdu) → IfSome found (λ pdu. IsSource source × (pdu ≡ plain_pdu source event both.code)) → IfSome found (λ pdu. pdu_of option row ≡ Some pdu)
plain_said option row source level event both front kind named alone None is = tt
plain_said option row source level event both front kind named alone (Some pdu) is =
    let parts = rw front at is in
    said option row level event both parts.0 kind named alone ∙ ap Some (sym parts.1)
