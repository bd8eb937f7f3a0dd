-- Private: the capture so far, which only clauses of private functions cite.
use Rattle.std.specs.Prelude.{◌≡◌, ◌≤◌, ℕ, ◌+◌, List, length, map}
use Rattle.std.specs.List.{AllByRecursion}
use Rattle.pcap_file.specs.declared.reading.Packet.{Packet}
use Rattle.pcap_file.specs.declared.encoding.Timed.{Timed}
use Rattle.pcap_file.specs.Written.{IsLittleCapture}
use Rattle.pcap_file.specs.CaptureOf.{shown_in, shown_by}

-- the bytes are a little-endian capture of these rows, and each packet stands within them
pub record IsWrittenSoFar (rows : List Timed) (bytes : List ℕ) : Type 0 where
  pub packets : List Packet
  pub capture : IsLittleCapture bytes packets
  pub within : AllByRecursion (λ packet. packet.start + packet.len ≤ length bytes) packets
  pub shown : map (shown_in bytes) packets ≡ map shown_by rows
