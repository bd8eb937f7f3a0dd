-- The parts of an ESMC frame: where each lies, with octets counted from 0, and what the standard fixes of it.
use Rattle.std.specs.Prelude.{ℕ, ◌/◌, ◌%◌, ◌^◌, Bool, List, [], ◌∷◌, ◌==◌, slice_index, slice_range}
use Rattle.std.specs.Int.{bit_at}

-- how many octets a frame has, without its frame check sequence. After IEEE 802.3, minFrameSize and maxBasicFrameSize
abbrev pub shortest : ℕ
shortest = 60

abbrev pub longest : ℕ
longest = 1514

-- Destination Address, octets 0 to 5: the multicast address of the slow protocols. After IEEE 802.3, Slow_Protocols_Multicast
abbrev pub destination_of : List ℕ → List ℕ
destination_of frame = slice_range frame 0 6

abbrev pub slow_protocols_address : List ℕ
slow_protocols_address = 0x01 ∷ 0x80 ∷ 0xc2 ∷ 0x00 ∷ 0x00 ∷ 0x02 ∷ []

-- Source Address, octets 6 to 11: that of the port which sends. After G.8264
abbrev pub source_of : List ℕ → List ℕ
source_of frame = slice_range frame 6 12

-- Slow Protocol Ethertype, octets 12 and 13. After IEEE 802.3, Slow_Protocols_Type
abbrev pub ethertype_of : List ℕ → List ℕ
ethertype_of frame = slice_range frame 12 14

abbrev pub slow_protocols_ethertype : List ℕ
slow_protocols_ethertype = 0x88 ∷ 0x09 ∷ []

-- Slow Protocol Subtype, octet 14: that of the organization specific slow protocol. After IEEE 802.3, OSSP
abbrev pub subtype_of : List ℕ → List ℕ
subtype_of frame = slice_range frame 14 15

abbrev pub ossp_subtype : List ℕ
ossp_subtype = 0x0a ∷ []

-- ITU-OUI, octets 15 to 17. After G.8264
abbrev pub oui_of : List ℕ → List ℕ
oui_of frame = slice_range frame 15 18

abbrev pub itu_oui : List ℕ
itu_oui = 0x00 ∷ 0x19 ∷ 0xa7 ∷ []

-- ITU Subtype, octets 18 and 19: that of the ESMC. After G.8264
abbrev pub itu_subtype_of : List ℕ → List ℕ
itu_subtype_of frame = slice_range frame 18 20

abbrev pub esmc_subtype : List ℕ
esmc_subtype = 0x00 ∷ 0x01 ∷ []

-- Version, bits 7 to 4 of octet 20. After G.8264
abbrev pub version_of : List ℕ → ℕ
version_of frame = slice_index frame 20 / 2 ^ 4

abbrev pub esmc_version : ℕ
esmc_version = 1

-- Event flag, bit 3 of octet 20: set in an event message, clear in an information message. After G.8264
abbrev pub event_flag_of : List ℕ → Bool
event_flag_of frame = bit_at (slice_index frame 20) 3 == 1

-- Type and Length of the QL TLV, octets 24 to 26: type 1, four octets in all. After G.8264
abbrev pub ql_tlv_of : List ℕ → List ℕ
ql_tlv_of frame = slice_range frame 24 27

abbrev pub ql_tlv_head : List ℕ
ql_tlv_head = 0x01 ∷ 0x00 ∷ 0x04 ∷ []

-- SSM code, bits 3 to 0 of octet 27. After G.8264
abbrev pub code_of : List ℕ → ℕ
code_of frame = slice_index frame 27 % 2 ^ 4

-- Type and Length of the extended QL TLV, octets 28 to 30: type 2, twenty octets in all. That there
-- is such a TLV is after G.8264; its layout and the meaning of its fields are this project's own
abbrev pub extended_tlv_of : List ℕ → List ℕ
extended_tlv_of frame = slice_range frame 28 31

abbrev pub extended_tlv_head : List ℕ
extended_tlv_head = 0x02 ∷ 0x00 ∷ 0x14 ∷ []

-- its fields: the enhanced code, octet 31; the identity of the clock, octets 32 to 39; flags, octet
-- 40; and how many enhanced EECs and how many EECs are cascaded behind it, octets 41 and 42
abbrev pub enhanced_code_of : List ℕ → ℕ
enhanced_code_of frame = slice_index frame 31

abbrev pub clock_of : List ℕ → List ℕ
clock_of frame = slice_range frame 32 40

abbrev pub flags_of : List ℕ → ℕ
flags_of frame = slice_index frame 40

abbrev pub eeecs_of : List ℕ → ℕ
eeecs_of frame = slice_index frame 41

abbrev pub eecs_of : List ℕ → ℕ
eecs_of frame = slice_index frame 42
