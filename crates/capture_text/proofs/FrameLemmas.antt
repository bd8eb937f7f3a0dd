-- The digits of a written frame: they are decoded to what it carries, and no line ends in them.
use Rattle.std.proofs.Common.{◌≡◌, ◌<◌, ◌-◌, ℕ, zero, suc, Bool, true, false, ◌==◌, List, [], ◌∷◌, ◌++◌, length, replicate, get_or, nat_lt, Option, Some, None, IfSome, Ok, refl, inl, inr, arith, lit<}
use Rattle.std.specs.List.{All, list_all}
use Rattle.std.proofs.lemmas.Bool.{cases_Bool, and_parts, ltb-true, eqb-true}
use Rattle.std.proofs.lemmas.List.Elements.{All-get_or, All-weaker}
use Rattle.capture_text.proofs.ReadingLemmas.{sized}
use Rattle.hex.specs.Hex.{IsBytes, decode_of, encode_lower, encode_with, is_hex_digit}
use Rattle.hex.proofs.HexLemmas.{decode_of-encode_lower, decode_of-ok}
use Rattle.sync_ql.specs.declared.levels.NetOption.{NetOption}
use Rattle.sync_ql.specs.declared.levels.Level.{Level}
use Rattle.sync_ql.specs.Level.{level_of_codes}
use Rattle.sync_ql.proofs.Tables.{enhanced_of-bound}
use Rattle.esmc_frame.specs.declared.frame.Pdu.{Pdu}
use Rattle.esmc_frame.specs.declared.frame.Extended.{Extended}
use Rattle.esmc_frame.specs.Parts.{slow_protocols_address, slow_protocols_ethertype, ossp_subtype, itu_oui, esmc_subtype, ql_tlv_head, extended_tlv_head}
use Rattle.esmc_frame.specs.Frame.{version_and_flag, written_extended, written_frame}
use Rattle.esmc_frame.specs.Reading.{reading_of}
use Rattle.esmc_frame.proofs.Laws.{reading_of-written_frame}
use Rattle.capture_text.specs.Reading.{IsRow, SayRow, SaysBehind, fields_of, enhanced_or_none, enhanced_named}
use Rattle.capture_text.specs.private.Steps.{AreOctets}

IsBytes-append : (xs ys : List ℕ) → IsBytes xs → IsBytes ys → IsBytes (xs ++ ys)
IsBytes-append [] ys front back i = back i
IsBytes-append (x ∷ xs) ys front back zero = front 0
IsBytes-append (x ∷ xs) ys front back (suc i) = IsBytes-append xs ys (λ k. front (suc k)) back i

IsBytes-tested : (xs : List ℕ) → list_all (λ x. nat_lt x 256) xs ≡ true → IsBytes xs
IsBytes-tested [] all i = lit< tt
IsBytes-tested (x ∷ xs) all zero = ltb-true _ _ (and_parts _ _ all).0
IsBytes-tested (x ∷ xs) all (suc i) = IsBytes-tested xs (and_parts _ _ all).1 i

IsBytes-one : (x : ℕ) → x < 256 → IsBytes (x ∷ [])
IsBytes-one x small zero = small
IsBytes-one x small (suc i) = lit< tt

IsBytes-flag : (event : Bool) → IsBytes (version_and_flag event ∷ [])
IsBytes-flag true = IsBytes-tested (version_and_flag true ∷ []) refl
IsBytes-flag false = IsBytes-tested (version_and_flag false ∷ []) refl

-- what a row can say
pub record IsSendable (pdu : Pdu) : Type 0 where
  pub six : length pdu.source ≡ 6
  pub octets : IsBytes pdu.source
  pub small : pdu.code < 16
  pub behind : IfSome pdu.extended AreOctets
  pub enhanced : IfSome pdu.extended (λ extended. extended.code < 256)

enhanced_bound : (found : Option Level) → enhanced_or_none found < 256
enhanced_bound (Some level) = enhanced_of-bound level
enhanced_bound None = lit< tt

behind_sendable : (option : NetOption) (code : ℕ) (behind : List (List ℕ)) (extended : Option Extended) → SaysBehind option code behind extended → IfSome extended AreOctets × IfSome extended (λ e. e.code < 256)
behind_sendable option code [] None says = (tt, tt)
behind_sendable option code (clock ∷ flags ∷ eeecs ∷ eecs ∷ []) (Some extended) says =
    let identity = sized clock 8 extended.clock says.identity in
    let octet = (sized flags 1 (extended.flags ∷ []) says.flag_octet).1 0 in (
      record { eight = identity.0; clock = identity.1; flags = octet; eeecs = says.eeecs_octet; eecs = says.eecs_octet },
      let below : enhanced_named option code (Some extended.code) < 256 = enhanced_bound (level_of_codes option code (Some extended.code)) in
          rw says.named below,
    )
behind_sendable option code behind extended says = absurd says

fields_sendable : (option : NetOption) (fields : List (List ℕ)) (pdu : Pdu) → SayRow option fields pdu → IsSendable pdu
fields_sendable option (source ∷ kind ∷ level ∷ behind) pdu says =
    let sends = sized source 6 pdu.source says.0.sends in
    let rest = behind_sendable option pdu.code behind pdu.extended says.1 in
    record { six = sends.0; octets = sends.1; small = says.0.four_bits; behind = rest.0; enhanced = rest.1 }
fields_sendable option fields pdu says = absurd says

pub sendable : (option : NetOption) (line : List ℕ) (pdu : Pdu) → IsRow option line pdu → IsSendable pdu
sendable option line pdu row = fields_sendable option (fields_of line) pdu row

IsBytes-extended : (extended : Option Extended) → IfSome extended AreOctets → IfSome extended (λ e. e.code < 256) → IsBytes (written_extended extended)
IsBytes-extended None octets code = IsBytes-tested (replicate 32 0) refl
IsBytes-extended (Some extended) octets code =
    let head = extended_tlv_head ++ extended.code ∷ [] in
    let clock = head ++ extended.clock in
    let counts = extended.flags ∷ extended.eeecs ∷ extended.eecs ∷ [] in
    let h_head = IsBytes-append extended_tlv_head (extended.code ∷ []) (IsBytes-tested extended_tlv_head refl) (IsBytes-one extended.code code) in
    let h_clock = IsBytes-append head extended.clock h_head octets.clock in
    let h_pair = IsBytes-append (extended.eeecs ∷ []) (extended.eecs ∷ []) (IsBytes-one extended.eeecs octets.eeecs) (IsBytes-one extended.eecs octets.eecs) in
    let h_counts = IsBytes-append (extended.flags ∷ []) (extended.eeecs ∷ extended.eecs ∷ []) (IsBytes-one extended.flags octets.flags) h_pair in
    let h_fields = IsBytes-append clock counts h_clock h_counts in
    IsBytes-append (clock ++ counts) (replicate 17 0) h_fields (IsBytes-tested (replicate 17 0) refl)

IsBytes-written : (pdu : Pdu) → IsSendable pdu → IsBytes (written_frame pdu)
IsBytes-written pdu can =
    let small = can.small in
    let code : pdu.code < 256 = omega (arith, small) in
    let address = slow_protocols_address ++ pdu.source in
    let ethertype = address ++ slow_protocols_ethertype in
    let subtype = ethertype ++ ossp_subtype in
    let oui = subtype ++ itu_oui in
    let itu_subtype = oui ++ esmc_subtype in
    let flag = itu_subtype ++ version_and_flag pdu.event ∷ [] in
    let reserved = flag ++ replicate 3 0 in
    let tlv = reserved ++ ql_tlv_head in
    let level = tlv ++ pdu.code ∷ [] in
    let h_address = IsBytes-append slow_protocols_address pdu.source (IsBytes-tested slow_protocols_address refl) can.octets in
    let h_ethertype = IsBytes-append address slow_protocols_ethertype h_address (IsBytes-tested slow_protocols_ethertype refl) in
    let h_subtype = IsBytes-append ethertype ossp_subtype h_ethertype (IsBytes-tested ossp_subtype refl) in
    let h_oui = IsBytes-append subtype itu_oui h_subtype (IsBytes-tested itu_oui refl) in
    let h_itu_subtype = IsBytes-append oui esmc_subtype h_oui (IsBytes-tested esmc_subtype refl) in
    let h_flag = IsBytes-append itu_subtype (version_and_flag pdu.event ∷ []) h_itu_subtype (IsBytes-flag pdu.event) in
    let h_reserved = IsBytes-append flag (replicate 3 0) h_flag (IsBytes-tested (replicate 3 0) refl) in
    let h_tlv = IsBytes-append reserved ql_tlv_head h_reserved (IsBytes-tested ql_tlv_head refl) in
    let h_level = IsBytes-append tlv (pdu.code ∷ []) h_tlv (IsBytes-one pdu.code code) in
    IsBytes-append level (written_extended pdu.extended) h_level (IsBytes-extended pdu.extended can.behind can.enhanced)

-- the digits are decoded to the frame, and the frame is read as what it carries
pub decode_of-digits : (pdu : Pdu) → IsSendable pdu → decode_of (encode_lower (written_frame pdu)) ≡ Ok (written_frame pdu)
decode_of-digits pdu can = decode_of-encode_lower (written_frame pdu) (IsBytes-written pdu can)

eight_octets : (extended : Option Extended) → IfSome extended AreOctets → IfSome extended (λ e. length e.clock ≡ 8)
eight_octets None octets = tt
eight_octets (Some extended) octets = octets.eight

pub reading_of-written : (pdu : Pdu) → IsSendable pdu → reading_of (written_frame pdu) ≡ Ok pdu
reading_of-written pdu can = reading_of-written_frame pdu can.six can.small (eight_octets pdu.extended can.behind)

pub some_digits : (pdu : Pdu) → 0 < length (encode_lower (written_frame pdu))
unfolding encode_with
some_digits pdu = omega arith

-- no digit is a line feed or a carriage return
abbrev differs : ℕ → ℕ → Type 0
differs byte digit = (digit == byte) ≡ false

no_line_feed : (digit : ℕ) → is_hex_digit digit ≡ true → differs 10 digit
no_line_feed digit is =
    elim (cases_Bool (digit == 10)) [
      | inl same ↦ let e = eqb-true digit 10 same in cc (rw e at is)
      | inr other ↦ other
    ]

no_carriage_return : (digit : ℕ) → is_hex_digit digit ≡ true → differs 13 digit
no_carriage_return digit is =
    elim (cases_Bool (digit == 13)) [
      | inl same ↦ let e = eqb-true digit 13 same in cc (rw e at is)
      | inr other ↦ other
    ]

pub no_line_feeds : (text octets : List ℕ) → decode_of text ≡ Ok octets → All (λ digit. (digit == 10) ≡ false) text
no_line_feeds text octets is = All-weaker (λ digit. is_hex_digit digit ≡ true) (differs 10) no_line_feed text (decode_of-ok text octets is).1

pub no_last_return : (text octets : List ℕ) → decode_of text ≡ Ok octets → 0 < length text → (get_or text (length text - 1) 0 == 13) ≡ false
no_last_return text octets is some =
    no_carriage_return _ (All-get_or (λ digit. is_hex_digit digit ≡ true) text (length text - 1) 0 (omega (arith, some)) (decode_of-ok text octets is).1)
