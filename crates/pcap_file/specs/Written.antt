-- What is written of a capture: little-endian numbers, no time zone, whole frames. After the file format of libpcap.
use Rattle.std.specs.Prelude.{◌≡◌, ℕ, ◌+◌, List, [], ◌∷◌, ◌++◌, length, Some, Ok}
use Rattle.std.specs.Int.{w32, to_le_bytes}
use Rattle.pcap_file.specs.declared.reading.Packet.{Packet}
use Rattle.pcap_file.specs.declared.reading.ByteOrder.TheVariants.{Little}
use Rattle.pcap_file.specs.Pcap.{order_of, packets_of, head_start}

-- the file header: how it begins, two words of zero, the snap length 65,535, and the link type 1
abbrev pub written_head : List ℕ
written_head = head_start Little ++ (0 ∷ 0 ∷ 0 ∷ 0 ∷ 0 ∷ 0 ∷ 0 ∷ 0 ∷ 0xff ∷ 0xff ∷ 0 ∷ 0 ∷ 1 ∷ 0 ∷ 0 ∷ 0 ∷ [])

-- what stands before a frame of this length in its record: its time, and its length twice
abbrev pub record_head : ℕ → ℕ → ℕ → List ℕ
record_head sec usec len = to_le_bytes w32 sec ++ to_le_bytes w32 usec ++ to_le_bytes w32 len ++ to_le_bytes w32 len

-- the record of a frame
unfoldable pub written_record : ℕ → ℕ → List ℕ → List ℕ
written_record sec usec frame = record_head sec usec (length frame) ++ frame

-- the packet of such a record that stands behind these bytes
abbrev pub written_packet : ℕ → ℕ → List ℕ → List ℕ → Packet
written_packet sec usec bytes frame =
    record { sec = sec; usec = usec; start = length bytes + 16; len = length frame; original = length frame }

-- the bytes are a little-endian capture of these packets
pub record IsLittleCapture (bytes : List ℕ) (packets : List Packet) : Type 0 where
  pub little : order_of bytes ≡ Some Little
  pub packets_are : packets_of bytes ≡ Ok packets
