-- A capture with one more record behind it.
use Rattle.std.proofs.Common.{◌≡◌, ◌≤◌, ◌<◌, ◌+◌, ◌-◌, ◌^◌, ◌==◌, ℕ, zero, suc, Bool, true, false, not, cond, nat_lt, List, [], ◌∷◌, ◌++◌, length, take, drop, Some, None, Result, Ok, Err, refl, sym, ap, ◌∙◌, arith, inl, inr, add-zero}
use Rattle.std.specs.Int.{w32, to_le_bytes, from_le_bytes, from_be_bytes}
use Rattle.std.specs.Cmp.Derive.{both_true}
use Rattle.std.proofs.lemmas.List.{get_or_append_left, length-append, length-drop, take-append-le, drop-append-le, drop_all, take_all}
use Rattle.std.proofs.Math.Seq.{drop-append-add}
use Rattle.std.proofs.lemmas.Nat.{from_le_bytes-to_le_bytes_4}
use Rattle.std.proofs.lemmas.Bool.{cases_Bool, cond-true, and_parts, le-ltb}
use Rattle.std.proofs.lemmas.Bool.Decides.{nat_tests}
use Rattle.pcap_file.specs.declared.reading.Packet.{Packet}
use Rattle.pcap_file.specs.declared.reading.ByteOrder.{ByteOrder}
use Rattle.pcap_file.specs.declared.reading.ByteOrder.TheVariants.{Big, Little}
use Rattle.pcap_file.specs.declared.error.PcapErr.{PcapErr}
use Rattle.pcap_file.specs.declared.error.PcapErr.TheVariants as refusal
use Rattle.pcap_file.specs.Pcap.{four_at, number_at, order_of, is_whole, packet_at, with_packet, packets_from, packets_in_order, octets_of}
use Rattle.pcap_file.specs.private.Pcap.{first_packet}
use Rattle.pcap_file.specs.Written.{record_head, written_record, written_packet, IsLittleCapture}
use Rattle.pcap_file.proofs.Packets.{one_more}

-- what stands behind a number doesn't change it
same_four : (xs ys : List ℕ) (at : ℕ) → at + 4 ≤ length xs → four_at (xs ++ ys) at ≡ four_at xs at
same_four xs ys at within =
    rw (get_or_append_left xs ys 0 at (omega arith), get_or_append_left xs ys 0 (at + 1) (omega arith), get_or_append_left xs ys 0 (at + 2) (omega arith), get_or_append_left xs ys 0 (at + 3) (omega arith)) refl

pub same_number : (order : ByteOrder) (xs ys : List ℕ) (at : ℕ) → at + 4 ≤ length xs → number_at order (xs ++ ys) at ≡ number_at order xs at
unfolding number_at
same_number Big xs ys at within = ap (from_be_bytes w32) (same_four xs ys at within)
same_number Little xs ys at within = ap (from_le_bytes w32) (same_four xs ys at within)

-- what a whole record says of its length
whole_parts : (order : ByteOrder) (octets : List ℕ) → is_whole order octets ≡ true → (16 ≤ length octets) × (number_at order octets 8 ≤ length octets - 16)
whole_parts order octets whole =
    let both = and_parts (not (nat_lt (length octets) 16)) (not (nat_lt (length octets - 16) (number_at order octets 8))) whole in
    let head : 16 ≤ length octets = grind (arith, nat_tests, both.0) in
    let all : number_at order octets 8 ≤ length octets - 16 = grind (arith, nat_tests, both.1) in
    (head, all)

whole_by : (order : ByteOrder) (octets : List ℕ) → 16 ≤ length octets → number_at order octets 8 ≤ length octets - 16 → is_whole order octets ≡ true
whole_by order octets head all =
    let first : not (nat_lt (length octets) 16) ≡ true = ap not (le-ltb _ _ head) in
    let second : not (nat_lt (length octets - 16) (number_at order octets 8)) ≡ true = ap not (le-ltb _ _ all) in
    both_true first second

-- a whole record stays whole, with its packet
still_whole : (order : ByteOrder) (xs ys : List ℕ) → is_whole order xs ≡ true → is_whole order (xs ++ ys) ≡ true
still_whole order xs ys whole =
    let parts = whole_parts order xs whole in
    let size = length-append xs ys in
    let number = same_number order xs ys 8 (omega (arith, parts.0)) in
    whole_by order (xs ++ ys) (omega (arith, size, parts.0)) (rw (number, size) (omega (arith, parts.1)))

same_packet : (order : ByteOrder) (place : ℕ) (xs ys : List ℕ) → 16 ≤ length xs → packet_at order place (xs ++ ys) ≡ packet_at order place xs
same_packet order place xs ys head =
    rw (same_number order xs ys 0 (omega (arith, head)), same_number order xs ys 4 (omega (arith, head)), same_number order xs ys 8 (omega (arith, head)), same_number order xs ys 12 (omega (arith, head))) refl

-- a list of packets that begins with a record's
opened : (whole : Bool) (packet : Packet) (rest : Result (List Packet) PcapErr) (n : ℕ) (packets : List Packet)
    → cond whole (with_packet packet rest) (Err (refusal.Record n)) ≡ Ok packets → (whole ≡ true) × ((later : List Packet) × (rest ≡ Ok later) × (packets ≡ packet ∷ later))
opened true packet (Ok later) n packets is = (refl, (later, refl, cc))
opened true packet (Err refused) n packets is = cc
opened false packet rest n packets is = cc

-- one more record behind whole records
pub appended : (order : ByteOrder) (n place skip : ℕ) (octets last : List ℕ) (packets : List Packet) (packet : Packet)
    → skip ≤ length octets → packets_from order n place skip octets ≡ Ok packets
    → ((m : ℕ) → packets_from order m (place + length octets) 0 last ≡ Ok (packet ∷ []))
    → packets_from order n place skip (octets ++ last) ≡ Ok (packets ++ packet ∷ [])
unfolding packets_from
appended order n place zero [] last packets packet within read next =
    let none : packets ≡ [] = cc in
    rw none (ap (λ at. packets_from order n at 0 last) (sym (add-zero place)) ∙ next n)
appended order n place (suc skip) [] last packets packet within read next = absurd (omega (arith, within))
appended order n place (suc skip) (octet ∷ octets) last packets packet within read next =
    let at : place + 1 + length octets ≡ place + suc (length octets) = omega arith in
    appended order n (place + 1) skip octets last packets packet (omega (arith, within)) read (λ m. ap (λ at. packets_from order m at 0 last) at ∙ next m)
appended order n place zero (octet ∷ octets) last packets packet within read next =
    let parts = opened (is_whole order (octet ∷ octets)) (packet_at order place (octet ∷ octets)) (packets_from order (n + 1) (place + 1) (15 + number_at order (octet ∷ octets) 8) octets) n packets read in
    let sizes = whole_parts order (octet ∷ octets) parts.0 in
    let at : place + 1 + length octets ≡ place + suc (length octets) = omega arith in
    let small : 15 + number_at order (octet ∷ octets) 8 ≤ length octets = omega (arith, sizes.0, sizes.1) in
    let later = parts.1.0 in
    let behind : packets_from order (n + 1) (place + 1) (15 + number_at order (octet ∷ octets) 8) (octets ++ last) ≡ Ok (later ++ packet ∷ []) =
    appended order (n + 1) (place + 1) (15 + number_at order (octet ∷ octets) 8) octets last later packet small parts.1.1 (λ m. ap (λ at. packets_from order m at 0 last) at ∙ next m) in
    let number = same_number order (octet ∷ octets) last 8 (omega (arith, sizes.0)) in
    cond-true _ _ _ (still_whole order (octet ∷ octets) last parts.0)
    ∙ ap (λ p. with_packet p (packets_from order (n + 1) (place + 1) (15 + number_at order (octet ∷ octets ++ last) 8) (octets ++ last))) (same_packet order place (octet ∷ octets) last sizes.0)
    ∙ ap (λ len. with_packet (packet_at order place (octet ∷ octets)) (packets_from order (n + 1) (place + 1) (15 + len) (octets ++ last))) number
    ∙ ap (with_packet (packet_at order place (octet ∷ octets))) behind
    ∙ ap (λ all. Ok (all ++ packet ∷ [])) (sym parts.1.2)

-- the numbers of a record that is written
number_there : (n : ℕ) (octets : List ℕ) (at : ℕ) → n < 2 ^ 32 → four_at octets at ≡ to_le_bytes w32 n → number_at Little octets at ≡ n
unfolding number_at
number_there n octets at small is = ap (from_le_bytes w32) is ∙ from_le_bytes-to_le_bytes_4 n small

pub written_is_read : (m place sec usec : ℕ) (frame : List ℕ) → sec < 2 ^ 32 → usec < 2 ^ 32 → length frame < 2 ^ 32
    → packets_from Little m place 0 (written_record sec usec frame) ≡ Ok (record { sec = sec; usec = usec; start = place + 16; len = length frame; original = length frame } ∷ [])
unfolding written_record first_packet packets_from
written_is_read m place sec usec frame small_sec small_usec small_len =
    let octets = record_head sec usec (length frame) ++ frame in
    let packet : Packet = record { sec = sec; usec = usec; start = place + 16; len = length frame; original = length frame } in
    let size : length octets ≡ 16 + length frame = length-append (record_head sec usec (length frame)) frame in
    let sec_is = number_there sec octets 0 small_sec refl in
    let usec_is = number_there usec octets 4 small_usec refl in
    let len_is = number_there (length frame) octets 8 small_len refl in
    let original_is = number_there (length frame) octets 12 small_len refl in
    let whole = whole_by Little octets (omega (arith, size)) (rw (len_is, size) (omega arith)) in
    let same : packet_at Little place octets ≡ packet = rw (sec_is, usec_is, len_is, original_is) refl in
    let first : first_packet Little place octets ≡ Some packet = cond-true _ _ _ whole ∙ ap Some same in
    one_more Little m place octets packet first
    ∙ ap (λ left. with_packet packet (packets_from Little (m + 1) (place + (16 + length frame)) 0 left)) (drop_all (16 + length frame) octets (omega (arith, size)))

-- the header is that of the bytes it begins
head_long : (bytes : List ℕ) (order : ByteOrder) → order_of bytes ≡ Some order → 24 ≤ length bytes
head_long bytes order is =
    elim (cases_Bool (nat_lt (length bytes) 24)) [
      | inl short ↦ let none : order_of bytes ≡ None = cond-true _ _ _ short in absurd (cc)
      | inr long ↦ grind (arith, nat_tests)
    ]

same_order : (bytes last : List ℕ) → 24 ≤ length bytes → order_of (bytes ++ last) ≡ order_of bytes
same_order bytes last long =
    let short : nat_lt (length bytes) 24 ≡ false = le-ltb _ _ long in
    let size = length-append bytes last in
    let shorter : nat_lt (length (bytes ++ last)) 24 ≡ false = le-ltb _ _ (omega (arith, size, long)) in
    let front : take 8 (bytes ++ last) ≡ take 8 bytes = take-append-le 8 bytes last (omega (arith, long)) in
    rw (short, shorter, front) refl

linked : (is : Bool) (read : Result (List Packet) PcapErr) (packets : List Packet) → cond is read (Err refusal.Link) ≡ Ok packets → (is ≡ true) × (read ≡ Ok packets)
linked true read packets h = (refl, h)
linked false read packets h = cc

-- a little-endian capture with one more record
pub little_more : (bytes last : List ℕ) (packets : List Packet) (packet : Packet) → IsLittleCapture bytes packets
    → ((m : ℕ) → packets_from Little m (length bytes) 0 last ≡ Ok (packet ∷ [])) → IsLittleCapture (bytes ++ last) (packets ++ packet ∷ [])
little_more bytes last packets packet capture next =
    let long = head_long bytes Little capture.little in
    let little : order_of (bytes ++ last) ≡ Some Little = same_order bytes last long ∙ capture.little in
    let read : packets_in_order (Some Little) bytes ≡ Ok packets = ap (λ order. packets_in_order order bytes) (sym capture.little) ∙ capture.packets_are in
    let parts = linked _ _ _ read in
    let number : number_at Little (bytes ++ last) 20 ≡ number_at Little bytes 20 = same_number Little bytes last 20 (omega (arith, long)) in
    let link : (number_at Little (bytes ++ last) 20 == 1) ≡ true = ap (λ n. n == 1) number ∙ parts.0 in
    let end : 24 + length (drop 24 bytes) ≡ length bytes = omega (arith, length-drop 24 bytes, long) in
    let all : packets_from Little 1 24 0 (drop 24 bytes ++ last) ≡ Ok (packets ++ packet ∷ []) =
    appended Little 1 24 0 (drop 24 bytes) last packets packet (omega arith) parts.1 (λ m. ap (λ at. packets_from Little m at 0 last) end ∙ next m) in record {
      little = little;
      packets_are = ap (λ order. packets_in_order order (bytes ++ last)) little
          ∙ cond-true _ _ _ link
          ∙ ap (packets_from Little 1 24 0) (drop-append-le 24 bytes last long)
          ∙ all;
    }

-- and so with one that is written
pub little_written : (sec usec : ℕ) (bytes frame : List ℕ) (packets : List Packet) → sec < 2 ^ 32 → usec < 2 ^ 32 → length frame < 2 ^ 32 → IsLittleCapture bytes packets
    → IsLittleCapture (bytes ++ written_record sec usec frame) (packets ++ written_packet sec usec bytes frame ∷ [])
little_written sec usec bytes frame packets small_sec small_usec small_len capture =
    little_more bytes (written_record sec usec frame) packets (written_packet sec usec bytes frame) capture (λ m. written_is_read m (length bytes) sec usec frame small_sec small_usec small_len)

-- the octets of the packet that is written are the frame
pub frame_there : (sec usec : ℕ) (bytes frame : List ℕ) → octets_of (bytes ++ written_record sec usec frame) (written_packet sec usec bytes frame) ≡ frame
unfolding written_record
frame_there sec usec bytes frame =
    let size : length bytes + 16 + length frame - (length bytes + 16) ≡ length frame = omega arith in
    let behind : drop (length bytes + 16) (bytes ++ (record_head sec usec (length frame) ++ frame)) ≡ frame = drop-append-add bytes (record_head sec usec (length frame) ++ frame) 16 in
    rw (size, behind) (take_all (length frame) frame (omega arith))
