-- The packets of records, one after another.
use Rattle.std.proofs.Common.{◌≡◌, ◌≤◌, ◌<◌, ◌+◌, ℕ, zero, suc, true, false, List, [], ◌∷◌, ◌++◌, length, drop, Some, None, Result, Ok, Err, refl, sym, ap, ◌∙◌, arith, inl, inr, add-zero, append_assoc, append-nil}
use Rattle.std.proofs.lemmas.List.{drop-drop, drop_all}
use Rattle.std.proofs.lemmas.Bool.{cases_Bool, cond-true, cond-false}
use Rattle.pcap_file.specs.declared.reading.Packet.{Packet}
use Rattle.pcap_file.specs.declared.reading.ByteOrder.{ByteOrder}
use Rattle.pcap_file.specs.declared.error.PcapErr.{PcapErr}
use Rattle.pcap_file.specs.declared.error.PcapErr.TheVariants as refusal
use Rattle.pcap_file.specs.Pcap.{number_at, is_whole, packet_at, with_packet, packets_from}
use Rattle.pcap_file.specs.private.Pcap.{first_packet}
use Rattle.pcap_file.specs.private.Steps.{with_packets}

-- octets of a record that was taken are passed over
pub passed_over : (order : ByteOrder) (n place skip : ℕ) (octets : List ℕ) → packets_from order n place skip octets ≡ packets_from order n (place + skip) 0 (drop skip octets)
unfolding packets_from
passed_over order n place zero octets = ap (λ at. packets_from order n at 0 octets) (sym (add-zero place))
passed_over order n place (suc skip) [] = refl
passed_over order n place (suc skip) (octet ∷ octets) =
    let at : place + 1 + skip ≡ place + suc skip = omega arith in
    passed_over order n (place + 1) skip octets ∙ ap (λ at. packets_from order n at 0 (drop skip octets)) at

-- what stands first in a record that is whole
pub is_taken : (order : ByteOrder) (place : ℕ) (octets : List ℕ) (packet : Packet) → first_packet order place octets ≡ Some packet → (is_whole order octets ≡ true) × (packet ≡ packet_at order place octets)
unfolding first_packet
is_taken order place octets packet is =
    elim (cases_Bool (is_whole order octets)) [
      | inl whole ↦ (whole, let same = cond-true (is_whole order octets) (Some (packet_at order place octets)) None whole in cc)
      | inr cut ↦ let none = cond-false (is_whole order octets) (Some (packet_at order place octets)) None cut in absurd (cc)
    ]

pub is_cut : (order : ByteOrder) (place : ℕ) (octets : List ℕ) → first_packet order place octets ≡ None → is_whole order octets ≡ false
unfolding first_packet
is_cut order place octets is =
    elim (cases_Bool (is_whole order octets)) [
      | inl whole ↦ let some = cond-true (is_whole order octets) (Some (packet_at order place octets)) None whole in absurd (cc)
      | inr cut ↦ cut
    ]

-- the first record, and those behind it
pub one_more : (order : ByteOrder) (n place : ℕ) (octets : List ℕ) (packet : Packet) → first_packet order place octets ≡ Some packet
    → packets_from order n place 0 octets ≡ with_packet packet (packets_from order (n + 1) (place + (16 + packet.len)) 0 (drop (16 + packet.len) octets))
unfolding packets_from
one_more order n place [] packet is = let whole = (is_taken order place [] packet is).0 in absurd (cc)
one_more order n place (octet ∷ octets) packet is =
    let taken = is_taken order place (octet ∷ octets) packet is in
    let len : number_at order (octet ∷ octets) 8 ≡ packet.len = ap (λ (p : Packet). p.len) (sym taken.1) in
    let at : place + 1 + (15 + packet.len) ≡ place + (16 + packet.len) = omega arith in
    let size : 16 + packet.len ≡ suc (15 + packet.len) = omega arith in
    let rest : packets_from order (n + 1) (place + 1) (15 + packet.len) octets ≡ packets_from order (n + 1) (place + (16 + packet.len)) 0 (drop (16 + packet.len) (octet ∷ octets)) =
    passed_over order (n + 1) (place + 1) (15 + packet.len) octets
    ∙ ap (λ at. packets_from order (n + 1) at 0 (drop (15 + packet.len) octets)) at
    ∙ ap (λ size. packets_from order (n + 1) (place + (16 + packet.len)) 0 (drop size (octet ∷ octets))) (sym size) in
    cond-true _ _ _ taken.0
    ∙ ap (λ len. with_packet (packet_at order place (octet ∷ octets)) (packets_from order (n + 1) (place + 1) (15 + len) octets)) len
    ∙ ap (λ p. with_packet p (packets_from order (n + 1) (place + 1) (15 + packet.len) octets)) (sym taken.1)
    ∙ ap (with_packet packet) rest

-- a record that isn't whole
pub refused_here : (order : ByteOrder) (n place : ℕ) (octets : List ℕ) → 0 < length octets → first_packet order place octets ≡ None → packets_from order n place 0 octets ≡ Err (refusal.Record n)
unfolding packets_from
refused_here order n place [] some is = absurd (omega arith)
refused_here order n place (octet ∷ octets) some is = cond-false _ _ _ (is_cut order place (octet ∷ octets) is)

-- a packet goes to those before it
pub joined : (front : List Packet) (packet : Packet) (rest : Result (List Packet) PcapErr) → with_packets front (with_packet packet rest) ≡ with_packets (front ++ packet ∷ []) rest
joined front packet (Ok packets) = ap Ok (sym (append_assoc front (packet ∷ []) packets))
joined front packet (Err refused) = refl

pub so_far_more : (order : ByteOrder) (n place : ℕ) (bytes : List ℕ) (front : List Packet) (packet : Packet) (whole : Result (List Packet) PcapErr)
    → with_packets front (packets_from order n place 0 (drop place bytes)) ≡ whole → first_packet order place (drop place bytes) ≡ Some packet → packet.start ≡ place + 16
    → with_packets (front ++ packet ∷ []) (packets_from order (n + 1) (packet.start + packet.len) 0 (drop (packet.start + packet.len) bytes)) ≡ whole
so_far_more order n place bytes front packet whole so_far is behind =
    let end : place + (16 + packet.len) ≡ packet.start + packet.len = omega (arith, behind) in
    let later : packets_from order (n + 1) (place + (16 + packet.len)) 0 (drop (16 + packet.len) (drop place bytes)) ≡ packets_from order (n + 1) (packet.start + packet.len) 0 (drop (packet.start + packet.len) bytes) =
    ap (packets_from order (n + 1) (place + (16 + packet.len)) 0) (drop-drop (16 + packet.len) place bytes)
    ∙ ap (λ at. packets_from order (n + 1) at 0 (drop at bytes)) end in
    sym (
    ap (with_packets front) (one_more order n place (drop place bytes) packet is)
    ∙ joined front packet (packets_from order (n + 1) (place + (16 + packet.len)) 0 (drop (16 + packet.len) (drop place bytes)))
    ∙ ap (with_packets (front ++ packet ∷ [])) later
    )
    ∙ so_far

-- where no octet is left, there is no further packet
pub at_end : (order : ByteOrder) (n place : ℕ) (bytes : List ℕ) (front : List Packet) (whole : Result (List Packet) PcapErr)
    → with_packets front (packets_from order n place 0 (drop place bytes)) ≡ whole → length bytes ≤ place → whole ≡ Ok front
unfolding packets_from
at_end order n place bytes front whole so_far all =
    sym so_far ∙ ap (λ left. with_packets front (packets_from order n place 0 left)) (drop_all place bytes all) ∙ ap Ok (append-nil front)
