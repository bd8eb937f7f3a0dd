-- The definitions at lines written by hand. Only read: no clause cites it.
use Rattle.std.specs.Prelude.{◌≡◌, ℕ, false, [], ◌∷◌, codes, None, Some, refl}
use Rattle.std.specs.Fmt.{digits}
use Rattle.hex.specs.Hex.{decode_pairs, encode_with}
use native.Mathlib.Decide.{dec_lt}
use Rattle.sync_text.specs.Number.{number_of}
use Rattle.sync_ql.specs.declared.levels.NetOption.TheVariants.{I, II}
use Rattle.esmc_frame.specs.declared.frame.Pdu.{Pdu}
use Rattle.capture_text.specs.Lines.{lines_of}
use Rattle.capture_text.specs.Row.{row_of}
use Rattle.capture_text.specs.Reading.{code_of_number, tlv_of, said_by, pdu_of, as_named}

-- a carriage return is dropped at the end of a line, and an empty line is a line
crlf : lines_of (97 ∷ 13 ∷ 10 ∷ 10 ∷ 98 ∷ 13 ∷ []) ≡ (97 ∷ []) ∷ [] ∷ (98 ∷ []) ∷ []
crlf = refl

-- of two carriage returns one is left
two_returns : lines_of (13 ∷ 13 ∷ 10 ∷ []) ≡ (13 ∷ []) ∷ [] ∷ []
two_returns = refl

-- an information message with SSM code 2, sent by 02-00-00-00-00-01
abbrev information : Pdu
information = record { source = 0x02 ∷ 0 ∷ 0 ∷ 0 ∷ 0 ∷ 0x01 ∷ []; event = false; code = 2; extended = None }

is_written : row_of I information ≡ codes "020000000001,info,QL-PRC"
unfolding digits encode_with dec_lt
is_written = refl

is_read : pdu_of I (codes "020000000001,info,QL-PRC") ≡ Some information
unfolding digits decode_pairs dec_lt said_by
is_read = refl

-- code 2 is a level's in option I, and no level's in option II
number_of_a_level : pdu_of I (codes "020000000001,info,code-2") ≡ None
unfolding digits decode_pairs dec_lt code_of_number said_by
number_of_a_level = refl

number_of_no_level : pdu_of II (codes "020000000001,info,code-2") ≡ Some information
unfolding digits decode_pairs dec_lt code_of_number said_by
number_of_no_level = refl

-- the same with an extended QL TLV of this enhanced code, of clock 0011223344556677, one enhanced EEC
abbrev with_enhanced : ℕ → Pdu
with_enhanced enhanced =
    record information { extended = Some (record { code = enhanced; clock = 0x00 ∷ 0x11 ∷ 0x22 ∷ 0x33 ∷ 0x44 ∷ 0x55 ∷ 0x66 ∷ 0x77 ∷ []; flags = 0; eeecs = 1; eecs = 0 }) }

enhanced_is_written : row_of I (with_enhanced 0x20) ≡ codes "020000000001,info,QL-PRTC,0011223344556677,00,1,0"
unfolding digits encode_with dec_lt
enhanced_is_written = refl

enhanced_is_read : pdu_of I (codes "020000000001,info,QL-PRTC,0011223344556677,00,1,0") ≡ Some (with_enhanced 0x20)
unfolding digits decode_pairs dec_lt code_of_number number_of tlv_of said_by
enhanced_is_read = refl

-- an enhanced code that no level has is written by the four-bit code, and comes back as ff
unknown_is_written : row_of I (with_enhanced 0x30) ≡ codes "020000000001,info,QL-PRC,0011223344556677,00,1,0"
unfolding digits encode_with dec_lt
unknown_is_written = refl

unknown_is_named : as_named I (with_enhanced 0x30) ≡ with_enhanced 0xff
unfolding dec_lt
unknown_is_named = refl

-- a level with an enhanced code is no level of a row of three fields
three_fields : pdu_of I (codes "020000000001,info,QL-PRTC") ≡ None
unfolding digits decode_pairs dec_lt code_of_number said_by
three_fields = refl

-- flags are two hexadecimal digits
flags_of_one_digit : pdu_of I (codes "020000000001,info,QL-PRTC,0011223344556677,0,1,0") ≡ None
unfolding digits decode_pairs dec_lt code_of_number number_of tlv_of said_by
flags_of_one_digit = refl

count_too_great : pdu_of I (codes "020000000001,info,QL-PRTC,0011223344556677,00,256,0") ≡ None
unfolding digits decode_pairs dec_lt code_of_number number_of tlv_of said_by
count_too_great = refl
