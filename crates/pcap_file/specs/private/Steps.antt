-- Private: the steps of reading and writing, which only clauses of private functions cite.
use Rattle.std.specs.Prelude.{ℕ, List, ◌++◌, cond, is_err, Result, Ok, Err}
use Rattle.esmc_frame.specs.Reading.{reading_of}
use Rattle.pcap_file.specs.declared.reading.Packet.{Packet}
use Rattle.pcap_file.specs.declared.error.PcapErr.{PcapErr}

-- packets, and those behind them
abbrev pub with_packets : List Packet → Result (List Packet) PcapErr → Result (List Packet) PcapErr
with_packets front (Ok packets) = Ok (front ++ packets)
with_packets front (Err refused) = Err refused

-- how many of the packets with these octets, of which there is one, are passed over
abbrev pub passed_of : List ℕ → ℕ
passed_of octets = cond (is_err (reading_of octets)) 1 0
