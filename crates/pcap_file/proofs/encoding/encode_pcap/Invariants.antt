use Rattle.std.proofs.Common.{◌≡◌, ◌+◌, ◌++◌, List, length}
use Rattle.std.specs.List.{filter_map}
use Rattle.capture_text.specs.Capture.{text_of_lines}
use Rattle.capture_text.specs.private.Steps.{with_front}
use Rattle.pcap_file.specs.declared.encoding.Timed.{Timed}
use Rattle.pcap_file.specs.Timed.{timed_of, record_of_line, encoded_pcap}
use Rattle.pcap_file.specs.CaptureOf.{timed_rows}
use Rattle.pcap_file.specs.private.WrittenSoFar.{IsWrittenSoFar}
use Rattle.pcap_file.proofs.encoding.encode_pcap.Given as goal

-- the text so far with the records of the lines left is the whole capture; and it is one of the rows before these
abbrev pub invariant-loop-number : goal.invariant-loop-number
invariant-loop-number l = record {
  whole : with_front l.text (text_of_lines (record_of_line l.option) (l.lines.number + 1) l.lines.lines) ≡ encoded_pcap l.option l.fn.bytes;
  rows : List Timed;
  written : IsWrittenSoFar rows l.text;
  left : rows ++ filter_map (timed_of l.option) l.lines.lines ≡ timed_rows l.option l.fn.bytes;
}

abbrev pub decreases-loop-number : goal.decreases-loop-number
decreases-loop-number l = length l.lines.lines
