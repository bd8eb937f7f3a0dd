-- What a reader answers of octets: the first part that is wrong, or what they carry.
use Rattle.std.specs.Prelude.{ℕ, Bool, not, ◌||◌, List, [], ◌∷◌, Option, Some, None, Result, Ok, Err, length, ◌==◌, nat_lt, if◌then◌else◌}
use Rattle.std.specs.List.{find}
use Rattle.std.specs.Str.{bytes_eq}
use Rattle.esmc_frame.specs.declared.frame.Pdu.{Pdu}
use Rattle.esmc_frame.specs.declared.frame.Extended.{Extended}
use Rattle.esmc_frame.specs.declared.error.FrameErr.{FrameErr}
use Rattle.esmc_frame.specs.declared.error.FrameErr.TheVariants.{Length, Destination, Ethertype, Subtype, Oui, ItuSubtype, Version, Tlv}
use Rattle.esmc_frame.specs.Parts.{shortest, longest, destination_of, slow_protocols_address, source_of, ethertype_of, slow_protocols_ethertype, subtype_of, ossp_subtype, oui_of, itu_oui, itu_subtype_of, esmc_subtype, version_of, esmc_version, event_flag_of, ql_tlv_of, ql_tlv_head, code_of, extended_tlv_of, extended_tlv_head, enhanced_code_of, clock_of, flags_of, eeecs_of, eecs_of}

-- whether the part that an error names is wrong
abbrev pub is_wrong : List ℕ → FrameErr → Bool
is_wrong frame Length = nat_lt (length frame) shortest || nat_lt longest (length frame)
is_wrong frame Destination = not (bytes_eq (destination_of frame) slow_protocols_address)
is_wrong frame Ethertype = not (bytes_eq (ethertype_of frame) slow_protocols_ethertype)
is_wrong frame Subtype = not (bytes_eq (subtype_of frame) ossp_subtype)
is_wrong frame Oui = not (bytes_eq (oui_of frame) itu_oui)
is_wrong frame ItuSubtype = not (bytes_eq (itu_subtype_of frame) esmc_subtype)
is_wrong frame Version = not (version_of frame == esmc_version)
is_wrong frame Tlv = not (bytes_eq (ql_tlv_of frame) ql_tlv_head)

-- the errors in the order of their parts, the length before all. This project's own
abbrev pub errors_in_order : List FrameErr
errors_in_order = Length ∷ Destination ∷ Ethertype ∷ Subtype ∷ Oui ∷ ItuSubtype ∷ Version ∷ Tlv ∷ []

-- the first part that is wrong, if any is
abbrev pub first_wrong : List ℕ → Option FrameErr
first_wrong frame = find (is_wrong frame) errors_in_order

-- the extended QL TLV that the octets have, if they have one
abbrev pub extended_of : List ℕ → Option Extended
extended_of frame =
    if bytes_eq (extended_tlv_of frame) extended_tlv_head
    then Some (record { code = enhanced_code_of frame; clock = clock_of frame; flags = flags_of frame; eeecs = eeecs_of frame; eecs = eecs_of frame })
    else None

-- what the octets carry, if no part is wrong
abbrev pub value_of : List ℕ → Pdu
value_of frame = record { source = source_of frame; event = event_flag_of frame; code = code_of frame; extended = extended_of frame }

-- a value, unless there is an error
abbrev pub unless_wrong : Option FrameErr → Pdu → Result Pdu FrameErr
unless_wrong None pdu = Ok pdu
unless_wrong (Some error) pdu = Err error

-- what a reader answers
abbrev pub reading_of : List ℕ → Result Pdu FrameErr
reading_of frame = unless_wrong (first_wrong frame) (value_of frame)
