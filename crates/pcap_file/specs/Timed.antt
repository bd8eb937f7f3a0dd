-- Rows with a time: SEC,USEC, and the row of a captured frame. This project's own.
use Rattle.std.specs.Prelude.{ℕ, ◌^◌, List, [], ◌∷◌, ◌++◌, codes, is_err, nat_lt, option_and_then, Option, None, Some, Result, Ok, Err, if◌then◌else◌}
use Rattle.std.specs.Fmt.{decimal}
use Rattle.std.specs.List.{flat_map, count_by}
use Rattle.sync_text.specs.Number.{number_of}
use Rattle.sync_ql.specs.declared.levels.NetOption.{NetOption}
use Rattle.esmc_frame.specs.declared.frame.Pdu.{Pdu}
use Rattle.esmc_frame.specs.declared.error.FrameErr.{FrameErr}
use Rattle.esmc_frame.specs.Frame.{written_frame}
use Rattle.esmc_frame.specs.Reading.{reading_of}
use Rattle.capture_text.specs.declared.error.CaptureErr.{CaptureErr}
use Rattle.capture_text.specs.declared.error.CaptureErr.TheVariants as wrong
use Rattle.capture_text.specs.Capture.{text_of_lines}
use Rattle.capture_text.specs.Lines.{lines_of}
use Rattle.capture_text.specs.Reading.{fields_of, said_by}
use Rattle.capture_text.specs.Row.{row_of}
use Rattle.pcap_file.specs.declared.reading.Packet.{Packet}
use Rattle.pcap_file.specs.declared.encoding.Timed.{Timed}
use Rattle.pcap_file.specs.declared.error.PcapErr.{PcapErr}
use Rattle.pcap_file.specs.Pcap.{packets_of, octets_of}
use Rattle.pcap_file.specs.Written.{written_head, written_record}

-- the row of a frame that was captured at this time, with a line feed, and nothing for what is no frame
abbrev pub row_of_reading : NetOption → ℕ → ℕ → Result Pdu FrameErr → List ℕ
row_of_reading option sec usec (Ok pdu) = decimal sec ++ codes "," ++ decimal usec ++ codes "," ++ row_of option pdu ++ codes "\n"
row_of_reading option sec usec (Err error) = []

abbrev pub row_of_packet : NetOption → List ℕ → Packet → List ℕ
row_of_packet option bytes packet = row_of_reading option packet.sec packet.usec (reading_of (octets_of bytes packet))

-- the rows of the packets that are frames, and then how many of the packets are none
abbrev pub text_of_packets : NetOption → List ℕ → List Packet → List ℕ
text_of_packets option bytes packets =
    flat_map (row_of_packet option bytes) packets
    ++ codes "passed,"
    ++ decimal (count_by (λ packet. is_err (reading_of (octets_of bytes packet))) packets)
    ++ codes "\n"

abbrev pub text_if_read : NetOption → List ℕ → Result (List Packet) PcapErr → Result (List ℕ) PcapErr
text_if_read option bytes (Ok packets) = Ok (text_of_packets option bytes packets)
text_if_read option bytes (Err refused) = Err refused

-- the rows of a capture, or its first refusal
unfoldable pub decoded_pcap : NetOption → List ℕ → Result (List ℕ) PcapErr
decoded_pcap option bytes = text_if_read option bytes (packets_of bytes)

-- a number of 32 bits
abbrev pub of_32_bits : ℕ → Option ℕ
of_32_bits number = if nat_lt number (2 ^ 32) then Some number else None

abbrev pub word_of : List ℕ → Option ℕ
word_of text = option_and_then of_32_bits (number_of text)

-- what the fields of a row with a time say
abbrev pub with_time : Option ℕ → Option ℕ → Option Pdu → Option Timed
with_time (Some sec) (Some usec) (Some pdu) = Some (record { sec = sec; usec = usec; pdu = pdu })
with_time _ _ _ = None

unfoldable pub timed_by : NetOption → List (List ℕ) → Option Timed
timed_by option (sec ∷ usec ∷ fields) = with_time (word_of sec) (word_of usec) (said_by option fields)
timed_by option fields = None

-- what a line says that is a row with a time
abbrev pub timed_of : NetOption → List ℕ → Option Timed
timed_of option line = timed_by option (fields_of line)

-- the record of the frame that a row says, and the refusal of line n where it is no row
abbrev pub record_said_at : ℕ → Option Timed → Result (List ℕ) CaptureErr
record_said_at n (Some timed) = Ok (written_record timed.sec timed.usec (written_frame timed.pdu))
record_said_at n None = Err (wrong.Row n)

-- what line n gives: nothing where it is empty
abbrev pub record_of_line : NetOption → ℕ → List ℕ → Result (List ℕ) CaptureErr
record_of_line option n [] = Ok []
record_of_line option n (first ∷ row) = record_said_at n (timed_of option (first ∷ row))

abbrev pub behind_head : Result (List ℕ) CaptureErr → Result (List ℕ) CaptureErr
behind_head (Ok records) = Ok (written_head ++ records)
behind_head (Err refused) = Err refused

-- the capture of the frames of rows, or the first line that is no row
abbrev pub encoded_pcap : NetOption → List ℕ → Result (List ℕ) CaptureErr
encoded_pcap option bytes = behind_head (text_of_lines (record_of_line option) 1 (lines_of bytes))
