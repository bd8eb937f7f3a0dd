-- A line is read as the value whose row it is.
use Rattle.std.proofs.Common.{◌≡◌, ◌↔◌, ◌<◌, ◌==◌, ◌^◌, ℕ, zero, suc, Bool, true, false, cond, List, [], ◌∷◌, length, codes, refl, Option, None, Some, IfSome, Result, Ok, Err, inl, inr, sym, ap, subst, ◌∙◌, arith, lit<}
use Rattle.std.specs.Prelude.{option_map, option_and_then, slice_index}
use Rattle.std.specs.Borrow.{Bor}
use Rattle.std.specs.Fmt.{decimal}
use Rattle.std.specs.Result.{result_ok}
use Rattle.std.specs.Str.{bytes_eq}
use Rattle.std.proofs.lemmas.Bool.{cases_Bool, cond-true, cond-false, eqb-true, lt-ltb}
use Rattle.std.proofs.lemmas.Bool.Decides.{nat_tests}
use Rattle.std.proofs.lemmas.List.Elements.{All-weaker}
use Rattle.std.proofs.lemmas.List.Splits.{length-slice_split}
use Rattle.std.proofs.lemmas.Slice.Eq.{bytes_eq-Decides}
use Rattle.hex.specs.Hex.{IsBytes, decode_sized, encode_lower, is_hex_digit}
use Rattle.hex.proofs.HexLemmas.{decode_sized-encode_lower, decode_of-encode_lower, decode_of-ok, decode_sized-ok, decode_sized-twice}
use Rattle.sync_text.specs.Number.{number_of}
use Rattle.sync_text.proofs.Decimals.{number_of_decimal, decimal_number_of}
use Rattle.sync_ql.specs.declared.levels.NetOption.{NetOption}
use Rattle.sync_ql.specs.declared.levels.Level.{Level}
use Rattle.sync_ql.specs.Table.{not_enhanced}
use Rattle.sync_ql.specs.Level.{level_of_codes}
use Rattle.esmc_frame.specs.declared.frame.Pdu.{Pdu}
use Rattle.esmc_frame.specs.declared.frame.Extended.{Extended}
use Rattle.capture_text.specs.declared.reading.Codes.{Codes}
use Rattle.capture_text.specs.Row.{kind_text, level_text, name_or_number, enhanced_in, fields_behind, row_fields, row_of}
use Rattle.capture_text.specs.Reading.{IsRow, SayRow, SaysFrame, SaysTlv, SaysBehind, as_named, tlv_as_named, HasNamedCode, enhanced_named, fields_of, ◌>>=◌, event_of, codes_of_text, octet, count_of, tlv_of, behind_of, said_by, pdu_of}
use Rattle.capture_text.specs.Lines.{parts_left}
use Rattle.capture_text.specs.private.Steps.{AreOctets}
use Rattle.capture_text.proofs.CodeLemmas.{StandsFor, codes_of_level_text, text_stands_for, alone_has_none, text_alone}
use Rattle.capture_text.proofs.RowLemmas.{IsField, AreFields, fields_joined, field_tested, name_is_field, code_is_field, octet_is_field}

-- what a step found, where the steps give a value
bind_some : {A B : Type 0} (found : Option A) (next : A → Option B) (value : B) → (found >>= next) ≡ Some value → (first : A) × (found ≡ Some first) × (next first ≡ Some value)
bind_some None next value gives = cc
bind_some (Some first) next value gives = (first, refl, gives)

pub same_ok : {A E : Type 0} (result : Result A E) (value : A) → result_ok result ≡ Some value → result ≡ Ok value
same_ok (Ok first) value is = cc
same_ok (Err error) value is = cc

-- the kind of a message
pub event_of_kind : (event : Bool) → event_of (kind_text event) ≡ Some event
event_of_kind true = refl
event_of_kind false = refl

kind_is : (text : List ℕ) (event : Bool) → event_of text ≡ Some event → text ≡ kind_text event
kind_is text event is =
    elim (cases_Bool (bytes_eq text (codes "info"))) [
      | inl information ↦
          let here : event_of text ≡ Some false = cond-true _ _ _ information in
          let same : false ≡ event = cc in
          rw (← same) ((bytes_eq-Decides text (codes "info")).0 information)
      | inr other ↦
          let past : event_of text ≡ cond (bytes_eq text (codes "event")) (Some true) None = cond-false _ _ _ other in
          elim (cases_Bool (bytes_eq text (codes "event"))) [
            | inl event_message ↦
                let here : event_of text ≡ Some true = past ∙ cond-true _ _ _ event_message in
                let same : true ≡ event = cc in
                rw (← same) ((bytes_eq-Decides text (codes "event")).0 event_message)
            | inr neither ↦ let none : event_of text ≡ None = past ∙ cond-false _ _ _ neither in cc
          ]
    ]

-- counts
octet_small : (number : ℕ) → number < 256 → octet number ≡ Some number
octet_small number small = cond-true _ _ _ (lt-ltb _ _ small)

count_of_decimal : (number : ℕ) → number < 256 → count_of (decimal number) ≡ Some number
count_of_decimal number small =
    let fits : number < 2 ^ 64 = omega arith in
    ap (option_and_then octet) (number_of_decimal (decimal number) number fits refl) ∙ octet_small number small

octet_is : (number count : ℕ) → octet number ≡ Some count → (number ≡ count) × (count < 256)
octet_is number count is = grind (arith, nat_tests)

count_found : (text : List ℕ) (found : Option ℕ) (count : ℕ) → number_of text ≡ found → option_and_then octet found ≡ Some count → (text ≡ decimal count) × (count < 256)
count_found text None count is found = cc
count_found text (Some number) count is found =
    let parts = octet_is number count found in
    (decimal_number_of text number is ∙ ap decimal parts.0, parts.1)

count_is : (text : List ℕ) (count : ℕ) → count_of text ≡ Some count → (text ≡ decimal count) × (count < 256)
count_is text count is = count_found text (number_of text) count refl is

-- the fields behind the level, from what they say
behind_stands : (option : NetOption) (code : ℕ) (behind : List (List ℕ)) (extended : Option Extended) → SaysBehind option code behind extended → behind_of (enhanced_named option code (enhanced_in extended)) behind ≡ Some extended
unfolding tlv_of
behind_stands option code [] None says = rw (alone_has_none option code) refl
behind_stands option code (clock ∷ flags ∷ eeecs ∷ eecs ∷ []) (Some extended) says =
    rw (says.identity, says.flag_octet, says.eeecs_number, says.eecs_number, count_of_decimal extended.eeecs says.eeecs_octet, count_of_decimal extended.eecs says.eecs_octet, ← says.named) refl
behind_stands option code behind extended says = absurd says

-- and what they say, where they are read
one_octet : (octets : List ℕ) → length octets ≡ 1 → octets ≡ slice_index octets 0 ∷ []
one_octet (octet ∷ []) one = refl
one_octet [] one = absurd (omega (arith, one))
one_octet (octet ∷ next ∷ octets) one = absurd (omega (arith, one))

pub sized : (text : List ℕ) (n : ℕ) (octets : List ℕ) → decode_sized text n ≡ Ok octets → (length octets ≡ n) × IsBytes octets
sized text n octets is =
    let twice = decode_sized-ok text n octets is in
    let ok = decode_of-ok text octets (sym (decode_sized-twice text n twice) ∙ is) in
    let len = ok.2 in
    (omega (arith, len, twice), ok.3)

tlv_is : (option : NetOption) (code enhanced : ℕ) (fields : List (List ℕ)) (extended : Extended) → tlv_of enhanced fields ≡ Some extended → enhanced ≡ enhanced_named option code (Some enhanced) → SaysBehind option code fields (Some extended) × (extended.code ≡ enhanced)
unfolding tlv_of
tlv_is option code enhanced (clock ∷ flags ∷ eeecs ∷ eecs ∷ []) extended is named =
    let identity = bind_some (result_ok (decode_sized clock 8)) _ extended is in
    let octets = bind_some (result_ok (decode_sized flags 1)) _ extended identity.2 in
    let first = bind_some (count_of eeecs) _ extended octets.2 in
    let second = bind_some (count_of eecs) _ extended first.2 in
    let flag = same_ok _ _ octets.1 in
    let one = one_octet octets.0 (sized flags 1 octets.0 flag).0 in
    let a = count_is eeecs first.0 first.1 in
    let b = count_is eecs second.0 second.1 in
    let same : record { code = enhanced; clock = identity.0; flags = slice_index octets.0 0; eeecs = first.0; eecs = second.0 } ≡ extended = cc second.2 in
    subst (λ (e : Extended). SaysTlv option code clock flags eeecs eecs e × (e.code ≡ enhanced)) same (
      record {
        named = named;
        identity = same_ok _ _ identity.1;
        flag_octet = flag ∙ ap Ok one;
        eeecs_number = a.0;
        eecs_number = b.0;
        eeecs_octet = a.1;
        eecs_octet = b.1;
      },
      refl,
    )
tlv_is option code enhanced fields extended is named = cc

-- what the fields behind the level say, and that the level's text is that of what they say
pub record Behind (option : NetOption) (code enhanced : ℕ) (behind : List (List ℕ)) (extended : Option Extended) : Type 0 where
  pub says : SaysBehind option code behind extended
  pub same_text : level_text option code (Some enhanced) ≡ level_text option code (enhanced_in extended)

mapped : {A B : Type 0} (make : A → B) (found : Option A) (value : B) → option_map make found ≡ Some value → (first : A) × (found ≡ Some first) × (make first ≡ value)
mapped make None value is = cc
mapped make (Some first) value is = (first, refl, cc)

behind_is : (option : NetOption) (code enhanced : ℕ) (behind : List (List ℕ)) (extended : Option Extended) → behind_of enhanced behind ≡ Some extended → enhanced ≡ enhanced_named option code (Some enhanced) → Behind option code enhanced behind extended
behind_is option code enhanced [] extended is named =
    elim (cases_Bool (enhanced == not_enhanced)) [
      | inl same ↦
          let here : behind_of enhanced [] ≡ Some None = cond-true _ _ _ same in
          let none : None ≡ extended = cc in
          let e = eqb-true enhanced not_enhanced same in
          subst (Behind option code enhanced []) none (record { says = tt; same_text = rw e (text_alone option code) })
      | inr other ↦ let never : behind_of enhanced [] ≡ None = cond-false _ _ _ other in cc
    ]
behind_is option code enhanced (field ∷ fields) extended is named =
    let found = mapped Some (tlv_of enhanced (field ∷ fields)) extended is in
    let tlv = tlv_is option code enhanced (field ∷ fields) found.0 found.1 named in
    subst (Behind option code enhanced (field ∷ fields)) found.2 (record { says = tlv.0; same_text = ap (λ e. level_text option code (Some e)) (sym tlv.1) })

-- a text has at least one field
some_field : (text : List ℕ) → 0 < length (fields_of text)
some_field text = omega (arith, length-slice_split (λ byte. byte == 44) text)

-- more than four fields say nothing
five : (enhanced : ℕ) (a b c d : List ℕ) (fields : List (List ℕ)) → 0 < length fields → tlv_of enhanced (a ∷ b ∷ c ∷ d ∷ fields) ≡ None
unfolding tlv_of
five enhanced a b c d [] some = absurd (omega (arith, some))
five enhanced a b c d (field ∷ fields) some = refl

-- a field that is cut off, where something is left
pub cut_off : (text field : List ℕ) (left : Option (Bor (List ℕ))) (rest : Bor (List ℕ)) → fields_of text ≡ field ∷ parts_left 44 left → left ≡ Some rest → fields_of text ≡ field ∷ fields_of rest.now
cut_off text field left rest parts some = parts ∙ ap (λ r. field ∷ parts_left 44 r) some

pub more_than_four : (enhanced : ℕ) (text a b c d one two three four : List ℕ) → fields_of text ≡ a ∷ fields_of one → fields_of one ≡ b ∷ fields_of two → fields_of two ≡ c ∷ fields_of three → fields_of three ≡ d ∷ fields_of four → None ≡ tlv_of enhanced (fields_of text)
more_than_four enhanced text a b c d one two three four p q r s =
    let fields : fields_of text ≡ a ∷ b ∷ c ∷ d ∷ fields_of four =
    p ∙ ap (λ xs. a ∷ xs) (q ∙ ap (λ xs. b ∷ xs) (r ∙ ap (λ xs. c ∷ xs) s)) in
    sym (ap (tlv_of enhanced) fields ∙ five enhanced a b c d (fields_of four) (some_field four))

-- fields behind the level are those of an extended QL TLV
of_tlv : (enhanced : ℕ) (fields : List (List ℕ)) → 0 < length fields → behind_of enhanced fields ≡ option_map Some (tlv_of enhanced fields)
of_tlv enhanced [] some = absurd (omega (arith, some))
of_tlv enhanced (field ∷ fields) some = refl

pub behind_is_tlv : (enhanced : ℕ) (rest : List ℕ) → behind_of enhanced (fields_of rest) ≡ option_map Some (tlv_of enhanced (fields_of rest))
behind_is_tlv enhanced rest = of_tlv enhanced (fields_of rest) (some_field rest)

-- fields say a value exactly where they are those of its row
fields_said : (option : NetOption) (fields : List (List ℕ)) (pdu : Pdu) → said_by option fields ≡ Some pdu → SayRow option fields pdu
unfolding said_by
fields_said option (source ∷ kind ∷ level ∷ behind) pdu is =
    let sends = bind_some (result_ok (decode_sized source 6)) _ pdu is in
    let event = bind_some (event_of kind) _ pdu sends.2 in
    let both = bind_some (codes_of_text option level) _ pdu event.2 in
    let extended = bind_some (behind_of both.0.enhanced behind) _ pdu both.2 in
    let text = text_stands_for option level both.0 both.1 in
    let rest = behind_is option both.0.code both.0.enhanced behind extended.0 extended.1 text.named in
    let same : record { source = sends.0; event = event.0; code = both.0.code; extended = extended.0 } ≡ pdu = cc extended.2 in
    subst (λ (p : Pdu). SaysFrame option source kind level p × SaysBehind option p.code behind p.extended) same (
      record {
        sends = same_ok _ _ sends.1;
        event = kind_is kind event.0 event.1;
        codes = text.written ∙ rest.same_text;
        four_bits = text.small;
      },
      rest.says,
    )
fields_said option fields pdu is = cc

said_fields : (option : NetOption) (fields : List (List ℕ)) (pdu : Pdu) → SayRow option fields pdu → said_by option fields ≡ Some pdu
unfolding said_by
said_fields option (source ∷ kind ∷ level ∷ behind) pdu says =
    rw (says.0.sends, says.0.event, says.0.codes, event_of_kind pdu.event, codes_of_level_text option pdu.code (enhanced_in pdu.extended) says.0.four_bits, behind_stands option pdu.code behind pdu.extended says.1) refl
said_fields option fields pdu says = absurd says

-- what is read was a row
pub row_of_pdu : (option : NetOption) (line : List ℕ) (pdu : Pdu) → pdu_of option line ≡ Some pdu → IsRow option line pdu
row_of_pdu option line pdu is = fields_said option (fields_of line) pdu is

-- a line is read exactly as the value whose row it is
pub read_is_row : (option : NetOption) (line : List ℕ) (read : Option Pdu) → read ≡ pdu_of option line → (pdu : Pdu) → (read ≡ Some pdu) ↔ IsRow option line pdu
read_is_row option line read is pdu = (
  λ some. row_of_pdu option line pdu (sym is ∙ some),
  λ row. is ∙ said_fields option (fields_of line) pdu row,
)

-- the fields of a written row
digit_is_no_comma : (digit : ℕ) → is_hex_digit digit ≡ true → (digit == 44) ≡ false
digit_is_no_comma digit is =
    elim (cases_Bool (digit == 44)) [
      | inl same ↦ let e = eqb-true digit 44 same in cc (rw e at is)
      | inr other ↦ other
    ]

digits_are_field : (octets : List ℕ) → IsBytes octets → IsField (encode_lower octets)
digits_are_field octets bytes =
    All-weaker (λ digit. is_hex_digit digit ≡ true) (λ digit. (digit == 44) ≡ false) digit_is_no_comma (encode_lower octets)
    (decode_of-ok (encode_lower octets) octets (decode_of-encode_lower octets bytes)).1

-- digits that give octets
pub digits_are_a_field : (text : List ℕ) (n : ℕ) (octets : List ℕ) → decode_sized text n ≡ Ok octets → IsField text
digits_are_a_field text n octets is =
    All-weaker (λ digit. is_hex_digit digit ≡ true) (λ digit. (digit == 44) ≡ false) digit_is_no_comma text
    (decode_of-ok text octets (sym (decode_sized-twice text n (decode_sized-ok text n octets is)) ∙ is)).1

pub kind_is_field : (event : Bool) → IsField (kind_text event)
kind_is_field true = field_tested (kind_text true) refl
kind_is_field false = field_tested (kind_text false) refl

level_is_field : (found : Option Level) (code : ℕ) → code < 16 → IsField (name_or_number found code)
level_is_field (Some level) code small = field_tested (name_or_number (Some level) code) (name_is_field level)
level_is_field None code small = field_tested (name_or_number None code) (code_is_field code small)

-- and so is a text that stands for codes
pub level_text_is_field : (option : NetOption) (text : List ℕ) (both : Codes) → StandsFor option text both → IsField text
level_text_is_field option text both text_is = rw text_is.written (level_is_field (level_of_codes option both.code (Some both.enhanced)) both.code text_is.small)

one_is_bytes : (octet : ℕ) → octet < 256 → IsBytes (octet ∷ [])
one_is_bytes octet small zero = small
one_is_bytes octet small (suc i) = lit< tt

behind_are_fields : (extended : Option Extended) → IfSome extended AreOctets → AreFields (fields_behind extended)
behind_are_fields None octets = tt
behind_are_fields (Some extended) octets =
    let eecs : AreFields (decimal extended.eecs ∷ []) = (field_tested (decimal extended.eecs) (octet_is_field extended.eecs octets.eecs), tt) in
    let eeecs : AreFields (decimal extended.eeecs ∷ decimal extended.eecs ∷ []) = (field_tested (decimal extended.eeecs) (octet_is_field extended.eeecs octets.eeecs), eecs) in
    (digits_are_field extended.clock octets.clock, (digits_are_field (extended.flags ∷ []) (one_is_bytes extended.flags octets.flags), eeecs))

-- what the fields behind the level are read as that were written
behind_read : (option : NetOption) (code : ℕ) (extended : Option Extended) → IfSome extended AreOctets → behind_of (enhanced_named option code (enhanced_in extended)) (fields_behind extended) ≡ Some (tlv_as_named option code extended)
unfolding tlv_of
behind_read option code None octets = rw (alone_has_none option code) refl
behind_read option code (Some extended) octets =
    rw (decode_sized-encode_lower extended.clock 8 octets.eight octets.clock, decode_sized-encode_lower (extended.flags ∷ []) 1 refl (one_is_bytes extended.flags octets.flags), count_of_decimal extended.eeecs octets.eeecs, count_of_decimal extended.eecs octets.eecs) refl

-- a written row is read back, with the enhanced code of the level that is named
pub row_is_read : (option : NetOption) (pdu : Pdu) → length pdu.source ≡ 6 → IsBytes pdu.source → pdu.code < 16 → IfSome pdu.extended AreOctets → pdu_of option (row_of option pdu) ≡ Some (as_named option pdu)
unfolding said_by
row_is_read option pdu six bytes small octets =
    let level = level_text option pdu.code (enhanced_in pdu.extended) in
    let named = level_is_field (level_of_codes option pdu.code (enhanced_in pdu.extended)) pdu.code small in
    let are : AreFields (row_fields option pdu) = (digits_are_field pdu.source bytes, (kind_is_field pdu.event, (named, behind_are_fields pdu.extended octets))) in
    let fields : fields_of (row_of option pdu) ≡ row_fields option pdu = fields_joined (encode_lower pdu.source) (kind_text pdu.event ∷ level ∷ fields_behind pdu.extended) are in
    ap (said_by option) fields
    ∙ rw (decode_sized-encode_lower pdu.source 6 six bytes, event_of_kind pdu.event, codes_of_level_text option pdu.code (enhanced_in pdu.extended) small, behind_read option pdu.code pdu.extended octets) refl

-- a value is as named exactly where its enhanced code is
tlv_named : (option : NetOption) (code : ℕ) (extended : Option Extended) → (tlv_as_named option code extended ≡ extended) ↔ IfSome extended (λ e. e.code ≡ enhanced_named option code (Some e.code))
tlv_named option code None = (λ same. tt, λ named. refl)
tlv_named option code (Some extended) = (
  λ same. let e : record extended { code = enhanced_named option code (Some extended.code) } ≡ extended = cc same in sym (ap (λ (x : Extended). x.code) e),
  λ named. rw (← named) refl,
)

pub named_is : (option : NetOption) (pdu : Pdu) → (as_named option pdu ≡ pdu) ↔ HasNamedCode option pdu
named_is option pdu = (
  λ same. (tlv_named option pdu.code pdu.extended).0 (ap (λ (p : Pdu). p.extended) same),
  λ named. let e = (tlv_named option pdu.code pdu.extended).1 named in ap (λ x. let p : Pdu = record pdu { extended = x } in p) e,
)
