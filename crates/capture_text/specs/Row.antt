-- The row of what a frame carries: SOURCE,KIND,LEVEL, and behind it CLOCK,FLAGS,EEECS,EECS where the
-- frame has an extended QL TLV. This project's own.
use Rattle.std.specs.Prelude.{ℕ, Bool, true, false, List, [], ◌∷◌, ◌++◌, codes, Option, None, Some}
use Rattle.std.specs.Fmt.{decimal}
use Rattle.std.specs.List.{join_with_byte}
use Rattle.hex.specs.Hex.{encode_lower}
use Rattle.sync_ql.specs.declared.levels.NetOption.{NetOption}
use Rattle.sync_ql.specs.declared.levels.Level.{Level}
use Rattle.sync_ql.specs.Level.{level_of_codes, name_of}
use Rattle.esmc_frame.specs.declared.frame.Pdu.{Pdu}
use Rattle.esmc_frame.specs.declared.frame.Extended.{Extended}

-- whether the message is an event message or an information message. After G.8264, event flag
abbrev pub kind_text : Bool → List ℕ
kind_text false = codes "info"
kind_text true = codes "event"

-- a level's name, and where codes name no level the number of the four-bit code
abbrev pub name_or_number : Option Level → ℕ → List ℕ
name_or_number (Some level) code = name_of level
name_or_number None code = codes "code-" ++ decimal code

-- the text of a four-bit code and an enhanced code, if one stands beside it
abbrev pub level_text : NetOption → ℕ → Option ℕ → List ℕ
level_text option code enhanced = name_or_number (level_of_codes option code enhanced) code

-- the enhanced code of a frame, if it has one
abbrev pub enhanced_in : Option Extended → Option ℕ
enhanced_in None = None
enhanced_in (Some extended) = Some extended.code

-- the fields behind the level: none, or the clock, the flags and both counts
abbrev pub fields_behind : Option Extended → List (List ℕ)
fields_behind None = []
fields_behind (Some extended) =
    encode_lower extended.clock
    ∷ encode_lower (extended.flags ∷ [])
    ∷ decimal extended.eeecs
    ∷ decimal extended.eecs
    ∷ []

-- all fields of the row
abbrev pub row_fields : NetOption → Pdu → List (List ℕ)
row_fields option pdu =
    encode_lower pdu.source
    ∷ kind_text pdu.event
    ∷ level_text option pdu.code (enhanced_in pdu.extended)
    ∷ fields_behind pdu.extended

-- the row of what a frame carries: its fields with commas between them, without a line feed
abbrev pub row_of : NetOption → Pdu → List ℕ
row_of option pdu = join_with_byte 44 (row_fields option pdu)
