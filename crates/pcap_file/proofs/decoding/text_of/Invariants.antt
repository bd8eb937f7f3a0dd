use Rattle.std.proofs.Common.{◌≡◌, ◌≤◌, ◌+◌, ◌++◌, drop}
use Rattle.std.specs.List.{flat_map, count_by}
use Rattle.std.specs.Prelude.{is_err}
use Rattle.esmc_frame.specs.Reading.{reading_of}
use Rattle.pcap_file.specs.Pcap.{octets_of}
use Rattle.pcap_file.specs.Timed.{row_of_packet}
use Rattle.pcap_file.proofs.decoding.text_of.Given as goal

-- the text so far with the rows of the packets left is that of all, and so is the number of those passed over
abbrev pub invariant-loop-packet : goal.invariant-loop-packet
invariant-loop-packet l = record {
  rows : l.text ++ flat_map (row_of_packet l.option l.bytes) (drop l.packet-index l.packets) ≡ flat_map (row_of_packet l.option l.bytes) l.packets;
  count : l.passed + count_by (λ packet. is_err (reading_of (octets_of l.bytes packet))) (drop l.packet-index l.packets) ≡ count_by (λ packet. is_err (reading_of (octets_of l.bytes packet))) l.packets;
  few : l.passed ≤ l.packet-index;
}
