-- Classic pcap: a file header of 24 octets, and records back to back to the end. After the file format of libpcap.
use Rattle.std.specs.Prelude.{ℕ, ◌+◌, ◌-◌, ◌==◌, zero, suc, Bool, not, ◌&&◌, List, [], ◌∷◌, length, take, drop, nat_lt, slice_index, Option, None, Some, Result, Ok, Err, if◌then◌else◌}
use Rattle.std.specs.Int.{w32, from_le_bytes, from_be_bytes}
use Rattle.std.specs.List.{slice_range}
use Rattle.std.specs.Str.{bytes_eq}
use Rattle.pcap_file.specs.declared.reading.Packet.{Packet}
use Rattle.pcap_file.specs.declared.reading.ByteOrder.{ByteOrder}
use Rattle.pcap_file.specs.declared.reading.ByteOrder.TheVariants.{Big, Little}
use Rattle.pcap_file.specs.declared.error.PcapErr.{PcapErr}
use Rattle.pcap_file.specs.declared.error.PcapErr.TheVariants as refusal

-- the four octets at a place, and their number
abbrev pub four_at : List ℕ → ℕ → List ℕ
four_at octets at = slice_index octets at ∷ slice_index octets (at + 1) ∷ slice_index octets (at + 2) ∷ slice_index octets (at + 3) ∷ []

unfoldable pub number_at : ByteOrder → List ℕ → ℕ → ℕ
number_at Big octets at = from_be_bytes w32 (four_at octets at)
number_at Little octets at = from_le_bytes w32 (four_at octets at)

-- how a file header begins: the magic number, and version 2.4
abbrev pub head_start : ByteOrder → List ℕ
head_start Big = 0xa1 ∷ 0xb2 ∷ 0xc3 ∷ 0xd4 ∷ 0 ∷ 2 ∷ 0 ∷ 4 ∷ []
head_start Little = 0xd4 ∷ 0xc3 ∷ 0xb2 ∷ 0xa1 ∷ 2 ∷ 0 ∷ 4 ∷ 0 ∷ []

-- the order of the numbers, if a file header stands first
abbrev pub order_of : List ℕ → Option ByteOrder
order_of bytes =
    if nat_lt (length bytes) 24 then None
    else if bytes_eq (take 8 bytes) (head_start Little) then Some Little
    else if bytes_eq (take 8 bytes) (head_start Big) then Some Big
    else None

-- whether the record that stands first is whole: its sixteen octets, and as many behind them as it says were captured
abbrev pub is_whole : ByteOrder → List ℕ → Bool
is_whole order octets = not (nat_lt (length octets) 16) && not (nat_lt (length octets - 16) (number_at order octets 8))

-- its packet, where the first octet has this place
abbrev pub packet_at : ByteOrder → ℕ → List ℕ → Packet
packet_at order place octets =
    record {
      sec = number_at order octets 0;
      usec = number_at order octets 4;
      start = place + 16;
      len = number_at order octets 8;
      original = number_at order octets 12;
    }

-- a packet, and those behind it
abbrev pub with_packet : Packet → Result (List Packet) PcapErr → Result (List Packet) PcapErr
with_packet packet (Ok packets) = Ok (packet ∷ packets)
with_packet packet (Err refused) = Err refused

-- the packets of the records behind the next octets, which belong to a record that was taken and of which there are `skip`: the first of these records is record n, and the first of all the octets has this place
unfoldable pub packets_from : ByteOrder → ℕ → ℕ → ℕ → List ℕ → Result (List Packet) PcapErr
packets_from order n place skip [] = Ok []
packets_from order n place (suc skip) (octet ∷ octets) = packets_from order n (place + 1) skip octets
packets_from order n place zero (octet ∷ octets) =
    if is_whole order (octet ∷ octets)
    then with_packet (packet_at order place (octet ∷ octets)) (packets_from order (n + 1) (place + 1) (15 + number_at order (octet ∷ octets) 8) octets)
    else Err (refusal.Record n)

-- those of a file with this order of numbers. Link type 1 is Ethernet
abbrev pub packets_in_order : Option ByteOrder → List ℕ → Result (List Packet) PcapErr
packets_in_order None bytes = Err refusal.Header
packets_in_order (Some order) bytes =
    if number_at order bytes 20 == 1 then packets_from order 1 24 0 (drop 24 bytes) else Err refusal.Link

-- the packets of a capture, or the first refusal
abbrev pub packets_of : List ℕ → Result (List Packet) PcapErr
packets_of bytes = packets_in_order (order_of bytes) bytes

-- the octets of a packet
abbrev pub octets_of : List ℕ → Packet → List ℕ
octets_of bytes packet = slice_range bytes packet.start (packet.start + packet.len)
