-- A capture that is written shows its frames.
use Rattle.std.proofs.Common.{◌≡◌, ◌≤◌, ◌<◌, ◌+◌, ◌-◌, ◌^◌, ℕ, Option, None, Some, List, [], ◌∷◌, ◌++◌, length, map, drop, refl, sym, ap, ◌∙◌, arith, append_assoc}
use Rattle.std.specs.List.{AllByRecursion, cons_option, filter_map}
use Rattle.std.proofs.lemmas.List.{length-append, length-drop, take-append-le, drop-append-le, map-append, append-nil}
use Rattle.esmc_frame.specs.Frame.{written_frame}
use Rattle.pcap_file.specs.declared.reading.Packet.{Packet}
use Rattle.pcap_file.specs.declared.encoding.Timed.{Timed}
use Rattle.sync_ql.specs.declared.levels.NetOption.{NetOption}
use Rattle.pcap_file.specs.Pcap.{octets_of}
use Rattle.pcap_file.specs.Timed.{timed_by, timed_of}
use Rattle.pcap_file.specs.Written.{written_head, record_head, written_record, written_packet, IsLittleCapture}
use Rattle.pcap_file.specs.CaptureOf.{shown_in, shown_by, IsCaptureOf}
use Rattle.pcap_file.specs.private.WrittenSoFar.{IsWrittenSoFar}
use Rattle.pcap_file.proofs.Captures.{little_written, frame_there}

-- the octets of a packet stay, whatever stands behind them
kept-octets : (bytes last : List ℕ) (packet : Packet) → packet.start + packet.len ≤ length bytes → octets_of (bytes ++ last) packet ≡ octets_of bytes packet
kept-octets bytes last packet within =
    rw (
      drop-append-le packet.start bytes last (omega (arith, within)),
      take-append-le (packet.start + packet.len - packet.start) (drop packet.start bytes) last (omega (arith, within, length-drop packet.start bytes)),
    ) refl

kept-shown : (bytes last : List ℕ) (packets : List Packet) → AllByRecursion (λ packet. packet.start + packet.len ≤ length bytes) packets
    → map (shown_in (bytes ++ last)) packets ≡ map (shown_in bytes) packets
kept-shown bytes last [] within = refl
kept-shown bytes last (packet ∷ packets) within = rw (kept-octets bytes last packet within.0, kept-shown bytes last packets within.1) refl

-- each packet stands within the bytes, and one more
all-within : (size more : ℕ) (packets : List Packet) (packet : Packet) → size ≤ more → AllByRecursion (λ packet. packet.start + packet.len ≤ size) packets → packet.start + packet.len ≤ more
    → AllByRecursion (λ packet. packet.start + packet.len ≤ more) (packets ++ packet ∷ [])
all-within size more [] packet longer within last = (last, tt)
all-within size more (first ∷ packets) packet longer within last = (omega (arith, within.0, longer), all-within size more packets packet longer within.1 last)

-- the header is a capture of no rows
pub none-written : IsLittleCapture written_head [] → IsWrittenSoFar [] written_head
none-written capture = record { packets = []; capture = capture; within = tt; shown = refl }

-- how long a record is
record-size : (sec usec : ℕ) (octets : List ℕ) → length (written_record sec usec octets) ≡ 16 + length octets
unfolding written_record
record-size sec usec octets = length-append (record_head sec usec (length octets)) octets

-- one row more
pub one-written : (rows : List Timed) (bytes : List ℕ) (timed : Timed) → IsWrittenSoFar rows bytes → timed.sec < 2 ^ 32 → timed.usec < 2 ^ 32 → length (written_frame timed.pdu) < 2 ^ 32
    → IsWrittenSoFar (rows ++ timed ∷ []) (bytes ++ written_record timed.sec timed.usec (written_frame timed.pdu))
one-written rows bytes timed so_far sec usec long = record {
  packets = so_far.packets ++ packet ∷ [];
  capture = little_written timed.sec timed.usec bytes frame so_far.packets sec usec long so_far.capture;
  within = all-within (length bytes) (length (bytes ++ last)) so_far.packets packet (omega (arith, size)) so_far.within (omega (arith, size, record_size));
  shown = map-append (shown_in (bytes ++ last)) so_far.packets (packet ∷ [])
      ∙ ap (λ front. front ++ shown_in (bytes ++ last) packet ∷ []) (kept-shown bytes last so_far.packets so_far.within ∙ so_far.shown)
      ∙ ap (λ octets. map shown_by rows ++ (timed.sec, timed.usec, length frame, octets) ∷ []) (frame_there timed.sec timed.usec bytes frame)
      ∙ sym (map-append shown_by rows (timed ∷ []));
}
  where
    frame : List ℕ
    frame = written_frame timed.pdu

    last : List ℕ
    last = written_record timed.sec timed.usec frame

    packet : Packet
    packet = written_packet timed.sec timed.usec bytes frame

    size : length (bytes ++ last) ≡ length bytes + length last
    size = length-append bytes last

    record_size : length last ≡ 16 + length frame
    record_size = record-size timed.sec timed.usec frame

-- a list of no length
pub no-octets : (octets : List ℕ) → length octets ≡ 0 → octets ≡ []
no-octets [] none = refl
no-octets (octet ∷ octets) none = absurd (omega (arith, none))

-- an empty line is no row
pub no-row : (option : NetOption) → timed_of option [] ≡ None
unfolding timed_by
no-row option = refl

-- the rows of a line, and those of the lines behind it
pub next-row : {L R : Type 0} (row : L → Option R) (before : List R) (line : L) (lines : List L) → (before ++ cons_option (row line) []) ++ filter_map row lines ≡ before ++ filter_map row (line ∷ lines)
next-row {R = R} row before line lines = of (row line) refl
  where
    of : (o : Option R) → row line ≡ o → (before ++ cons_option (row line) []) ++ filter_map row lines ≡ before ++ filter_map row (line ∷ lines)
    of None is = rw is (ap (λ front. front ++ filter_map row lines) (append-nil before))
    of (Some r) is = rw is (append_assoc before (r ∷ []) (filter_map row lines))

-- what is written in the end is a capture of the rows
pub capture-of : (rows : List Timed) (bytes : List ℕ) → IsWrittenSoFar rows bytes → IsCaptureOf rows bytes
capture-of rows bytes written = record { packets = written.packets; read = written.capture.packets_are; shown = written.shown }
