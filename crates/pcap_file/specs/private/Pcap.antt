-- Beside specs/Pcap.antt, under no public clause: classic pcap: a file header of 24 octets, and records back to back to
-- the end.
use Rattle.std.specs.Prelude.{ℕ, List, Option, None, Some, if◌then◌else◌}
use Rattle.pcap_file.specs.declared.reading.Packet.{Packet}
use Rattle.pcap_file.specs.declared.reading.ByteOrder.{ByteOrder}
use Rattle.pcap_file.specs.Pcap.{is_whole, packet_at}

unfoldable pub first_packet : ByteOrder → ℕ → List ℕ → Option Packet
first_packet order place octets = if is_whole order octets then Some (packet_at order place octets) else None
