-- What a line says that is a row. This project's own.
use Rattle.std.specs.Prelude.{◌≡◌, ℕ, ◌<◌, ◌==◌, ◌&&◌, Bool, true, false, List, [], ◌∷◌, ◌++◌, codes, nat_lt, slice_index, option_and_then, option_map, is_none, Option, None, Some, IfSome, Ok, if◌then◌else◌, ⊤}
use Rattle.std.specs.Fmt.{decimal}
use Rattle.std.specs.List.{find, range_with_len, slice_split}
use Rattle.std.specs.Option.{option_or}
use Rattle.std.specs.Result.{result_ok}
use Rattle.std.specs.Str.{bytes_eq}
use Rattle.hex.specs.Hex.{decode_sized}
use Rattle.sync_text.specs.Number.{number_of}
use Rattle.sync_ql.specs.declared.levels.NetOption.{NetOption}
use Rattle.sync_ql.specs.declared.levels.Level.{Level}
use Rattle.sync_ql.specs.Table.{not_enhanced}
use Rattle.sync_ql.specs.Level.{code_of, enhanced_of, level_of_code, level_of_codes, level_of_name}
use Rattle.esmc_frame.specs.declared.frame.Pdu.{Pdu}
use Rattle.esmc_frame.specs.declared.frame.Extended.{Extended}
use Rattle.capture_text.specs.declared.reading.Codes.{Codes}
use Rattle.capture_text.specs.Row.{kind_text, level_text, enhanced_in}

-- the enhanced code of a level, and ff where there is none
abbrev pub enhanced_or_none : Option Level → ℕ
enhanced_or_none (Some level) = enhanced_of level
enhanced_or_none None = not_enhanced

-- the enhanced code of the level that codes name, and ff where they name none
abbrev pub enhanced_named : NetOption → ℕ → Option ℕ → ℕ
enhanced_named option code enhanced = enhanced_or_none (level_of_codes option code enhanced)

-- the fields of a line, between commas
abbrev pub fields_of : List ℕ → List (List ℕ)
fields_of line = slice_split (λ byte. byte == 44) line

-- the first three fields say who sends, which kind of message, and the codes: as they are written,
-- but the source's twelve digits may be of either case
pub record SaysFrame (option : NetOption) (source kind level : List ℕ) (pdu : Pdu) : Type 0 where
  pub sends : decode_sized source 6 ≡ Ok pdu.source
  pub event : kind ≡ kind_text pdu.event
  pub codes : level ≡ level_text option pdu.code (enhanced_in pdu.extended)
  pub four_bits : pdu.code < 16

-- the other four say what an extended QL TLV does, whose enhanced code is that of the level, or ff
-- where the codes name none: digits may be of either case, and counts are numbers up to 255
pub record SaysTlv (option : NetOption) (code : ℕ) (clock flags eeecs eecs : List ℕ) (extended : Extended) : Type 0 where
  pub named : extended.code ≡ enhanced_named option code (Some extended.code)
  pub identity : decode_sized clock 8 ≡ Ok extended.clock
  pub flag_octet : decode_sized flags 1 ≡ Ok (extended.flags ∷ [])
  pub eeecs_number : eeecs ≡ decimal extended.eeecs
  pub eecs_number : eecs ≡ decimal extended.eecs
  pub eeecs_octet : extended.eeecs < 256
  pub eecs_octet : extended.eecs < 256

-- the fields behind the level: none, or these four
abbrev pub SaysBehind : NetOption → ℕ → List (List ℕ) → Option Extended → Type 0
SaysBehind option code [] None = ⊤
SaysBehind option code (clock ∷ flags ∷ eeecs ∷ eecs ∷ []) (Some extended) = SaysTlv option code clock flags eeecs eecs extended
SaysBehind option code fields extended = ⊥

-- a row has three fields or seven
abbrev pub SayRow : NetOption → List (List ℕ) → Pdu → Type 0
SayRow option (source ∷ kind ∷ level ∷ behind) pdu =
    SaysFrame option source kind level pdu × SaysBehind option pdu.code behind pdu.extended
SayRow option fields pdu = ⊥

-- the line is a row of this value
abbrev pub IsRow : NetOption → List ℕ → Pdu → Type 0
IsRow option line pdu = SayRow option (fields_of line) pdu

-- what a row is read as that was written for a value: the same, but an enhanced code that no level
-- has is that of the level which is named, or ff
abbrev pub tlv_as_named : NetOption → ℕ → Option Extended → Option Extended
tlv_as_named option code None = None
tlv_as_named option code (Some extended) = Some (record extended { code = enhanced_named option code (Some extended.code) })

abbrev pub as_named : NetOption → Pdu → Pdu
as_named option pdu = record pdu { extended = tlv_as_named option pdu.code pdu.extended }

-- the enhanced code, if there is one, is that of the level which is named, or ff where none is
abbrev pub HasNamedCode : NetOption → Pdu → Type 0
HasNamedCode option pdu =
    IfSome pdu.extended (λ extended. extended.code ≡ enhanced_named option pdu.code (Some extended.code))

-- goes on with the value, if there is one
infixl 10 ◌>>=◌
abbrev pub ◌>>=◌ : {A B : Type 0} → Option A → (A → Option B) → Option B
None >>= next = None
(Some value) >>= next = next value

-- whether a kind's text is that of an event message
abbrev pub event_of : List ℕ → Option Bool
event_of text =
    if bytes_eq text (codes "info") then Some false
    else if bytes_eq text (codes "event") then Some true
    else None

-- both codes of a level, and those of a four-bit code that no level has
abbrev pub codes_of_level : Level → Codes
codes_of_level level = record { code = code_of level; enhanced = enhanced_of level }

abbrev pub codes_of_code : ℕ → Codes
codes_of_code code = record { code = code; enhanced = not_enhanced }

-- the four-bit code that no level has and whose number this is
unfoldable pub code_of_number : NetOption → List ℕ → Option ℕ
code_of_number option text =
    find (λ code. is_none (level_of_code option code) && bytes_eq (codes "code-" ++ decimal code) text) (range_with_len 0 16)

-- the codes of the level with this name, or of `code-N`
abbrev pub codes_of_text : NetOption → List ℕ → Option Codes
codes_of_text option text =
    option_or (option_map codes_of_level (level_of_name option text)) (option_map codes_of_code (code_of_number option text))

-- a number up to 255
abbrev pub octet : ℕ → Option ℕ
octet number = if nat_lt number 256 then Some number else None

abbrev pub count_of : List ℕ → Option ℕ
count_of text = option_and_then octet (number_of text)

-- what four fields say beside the enhanced code of the level
unfoldable pub tlv_of : ℕ → List (List ℕ) → Option Extended
tlv_of enhanced (clock ∷ flags ∷ eeecs ∷ eecs ∷ []) = do
  clock ← result_ok (decode_sized clock 8)
  flags ← result_ok (decode_sized flags 1)
  eeecs ← count_of eeecs
  eecs ← count_of eecs
  Some (record { code = enhanced; clock = clock; flags = slice_index flags 0; eeecs = eeecs; eecs = eecs })
tlv_of enhanced fields = None

-- what the fields behind the level say: where there are none, the level has no enhanced code
abbrev pub behind_of : ℕ → List (List ℕ) → Option (Option Extended)
behind_of enhanced [] = if enhanced == not_enhanced then Some None else None
behind_of enhanced (field ∷ fields) = option_map Some (tlv_of enhanced (field ∷ fields))

-- the value that fields say, if they are those of a row
unfoldable pub said_by : NetOption → List (List ℕ) → Option Pdu
said_by option (source ∷ kind ∷ level ∷ behind) = do
  source ← result_ok (decode_sized source 6)
  event ← event_of kind
  both ← codes_of_text option level
  extended ← behind_of both.enhanced behind
  Some (record { source = source; event = event; code = both.code; extended = extended })
said_by option fields = None

-- the value whose row the line is, if it is one
abbrev pub pdu_of : NetOption → List ℕ → Option Pdu
pdu_of option line = said_by option (fields_of line)
