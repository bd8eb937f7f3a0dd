-- An ESMC frame, as the list of its octets: what it carries, and how it is written.
use Rattle.std.specs.Prelude.{◌≡◌, ◌≢◌, ℕ, ◌+◌, ◌*◌, ◌^◌, ◌≤◌, Bool, List, [], ◌∷◌, ◌++◌, Option, Some, None, length, replicate, if◌then◌else◌}
use Rattle.esmc_frame.specs.declared.frame.Pdu.{Pdu}
use Rattle.esmc_frame.specs.declared.frame.Extended.{Extended}
use Rattle.esmc_frame.specs.Parts.{shortest, longest, destination_of, slow_protocols_address, source_of, ethertype_of, slow_protocols_ethertype, subtype_of, ossp_subtype, oui_of, itu_oui, itu_subtype_of, esmc_subtype, version_of, esmc_version, event_flag_of, ql_tlv_of, ql_tlv_head, code_of, extended_tlv_of, extended_tlv_head, enhanced_code_of, clock_of, flags_of, eeecs_of, eecs_of}

-- the octets have an extended QL TLV with these fields. Its layout is this project's own
pub record SpellsTlv (frame : List ℕ) (extended : Extended) : Type 0 where
  pub tlv : extended_tlv_of frame ≡ extended_tlv_head
  pub code : enhanced_code_of frame ≡ extended.code
  pub clock : clock_of frame ≡ extended.clock
  pub flags : flags_of frame ≡ extended.flags
  pub eeecs : eeecs_of frame ≡ extended.eeecs
  pub eecs : eecs_of frame ≡ extended.eecs

-- they have this one, or none, where other octets stand in the place of its type and length
abbrev pub SpellsExtended : List ℕ → Option Extended → Type 0
SpellsExtended frame None = extended_tlv_of frame ≢ extended_tlv_head
SpellsExtended frame (Some extended) = SpellsTlv frame extended

-- the octets are a frame that carries this value; what no line names may be anything. After G.8264, ESMC PDU format
pub record Spells (frame : List ℕ) (pdu : Pdu) : Type 0 where
  pub at_least : shortest ≤ length frame
  pub at_most : length frame ≤ longest
  pub destination : destination_of frame ≡ slow_protocols_address
  pub source : source_of frame ≡ pdu.source
  pub ethertype : ethertype_of frame ≡ slow_protocols_ethertype
  pub subtype : subtype_of frame ≡ ossp_subtype
  pub oui : oui_of frame ≡ itu_oui
  pub itu_subtype : itu_subtype_of frame ≡ esmc_subtype
  pub version : version_of frame ≡ esmc_version
  pub event : event_flag_of frame ≡ pdu.event
  pub tlv : ql_tlv_of frame ≡ ql_tlv_head
  pub code : code_of frame ≡ pdu.code
  pub extended : SpellsExtended frame pdu.extended

-- the octet of version and event flag, its reserved bits zero
abbrev pub version_and_flag : Bool → ℕ
version_and_flag event = esmc_version * 2 ^ 4 + (if event then 2 ^ 3 else 0)

-- what is sent behind the QL TLV: the extended QL TLV, if there is one, and padding
abbrev pub written_extended : Option Extended → List ℕ
written_extended None = replicate 32 0
written_extended (Some extended) =
    extended_tlv_head
    ++ extended.code ∷ []
    ++ extended.clock
    ++ extended.flags ∷ extended.eeecs ∷ extended.eecs ∷ []
    ++ replicate 17 0

-- the frame that is sent for a value, 60 octets: what is reserved, unused or padding is zero. After G.8264, ESMC PDU format
abbrev pub written_frame : Pdu → List ℕ
written_frame pdu =
    slow_protocols_address
    ++ pdu.source
    ++ slow_protocols_ethertype
    ++ ossp_subtype
    ++ itu_oui
    ++ esmc_subtype
    ++ version_and_flag pdu.event ∷ []
    ++ replicate 3 0
    ++ ql_tlv_head
    ++ pdu.code ∷ []
    ++ written_extended pdu.extended
