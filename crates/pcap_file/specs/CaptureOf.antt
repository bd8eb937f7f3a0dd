-- A capture of frames with times. This project's own; the capture after the file format of libpcap.
use Rattle.std.specs.Prelude.{◌≡◌, ℕ, List, length, map, Ok}
use Rattle.std.specs.List.{filter_map}
use Rattle.sync_ql.specs.declared.levels.NetOption.{NetOption}
use Rattle.esmc_frame.specs.Frame.{written_frame}
use Rattle.capture_text.specs.Lines.{lines_of}
use Rattle.pcap_file.specs.declared.reading.Packet.{Packet}
use Rattle.pcap_file.specs.declared.encoding.Timed.{Timed}
use Rattle.pcap_file.specs.Pcap.{packets_of, octets_of}
use Rattle.pcap_file.specs.Timed.{timed_of}

-- what the lines of a text say that are rows with a time, in their order
abbrev pub timed_rows : NetOption → List ℕ → List Timed
timed_rows option bytes = filter_map (timed_of option) (lines_of bytes)

-- what a packet of a capture shows: its time, how long its frame was, and its octets
abbrev pub shown_in : List ℕ → Packet → ℕ × ℕ × ℕ × List ℕ
shown_in bytes packet = (packet.sec, packet.usec, packet.original, octets_of bytes packet)

-- and what a row is to show: its time, and the whole frame of what it says
abbrev pub shown_by : Timed → ℕ × ℕ × ℕ × List ℕ
shown_by timed = (timed.sec, timed.usec, length (written_frame timed.pdu), written_frame timed.pdu)

-- the bytes are a capture of just the frames of these rows, in their order, with their times
pub record IsCaptureOf (rows : List Timed) (bytes : List ℕ) : Type 0 where
  pub packets : List Packet
  pub read : packets_of bytes ≡ Ok packets
  pub shown : map (shown_in bytes) packets ≡ map shown_by rows
