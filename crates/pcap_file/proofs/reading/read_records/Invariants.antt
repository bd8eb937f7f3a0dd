use Rattle.std.proofs.Common.{◌≡◌, ◌≤◌, ◌+◌, ◌-◌, length, drop}
use Rattle.std.specs.List.{All}
use Rattle.pcap_file.specs.Pcap.{packets_from}
use Rattle.pcap_file.specs.private.Steps.{with_packets}
use Rattle.pcap_file.proofs.reading.read_records.Given as goal

-- the packets so far with those of the octets left are the packets of all records
abbrev pub invariant-loop-place : goal.invariant-loop-place
invariant-loop-place l = record {
  here : l.place ≤ length l.bytes;
  counted : l.number ≤ l.place;
  so_far : with_packets l.packets (packets_from l.order (l.number + 1) l.place 0 (drop l.place l.bytes)) ≡ packets_from l.order 1 24 0 (drop 24 l.bytes);
  within : All (λ packet. packet.start + packet.len ≤ length l.bytes) l.packets;
}

abbrev pub decreases-loop-place : goal.decreases-loop-place
decreases-loop-place l = length l.bytes - l.place
