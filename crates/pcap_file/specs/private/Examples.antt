-- The definitions at captures written by hand. Only read: no clause cites it.
use Rattle.std.specs.Prelude.{◌≡◌, ℕ, List, [], ◌∷◌, ◌++◌, codes, replicate, None, Ok, Err, refl}
use Rattle.sync_text.specs.Number.{number_of}
use Rattle.sync_ql.specs.declared.levels.NetOption.TheVariants.{I}
use Rattle.capture_text.specs.Reading.{said_by}
use Rattle.pcap_file.specs.declared.error.PcapErr.TheVariants.{Header, Link, Record}
use Rattle.pcap_file.specs.Pcap.{number_at, packets_from, packets_of, octets_of}
use Rattle.pcap_file.specs.Timed.{timed_by, timed_of}

abbrev little : List ℕ
little = 0xd4 ∷ 0xc3 ∷ 0xb2 ∷ 0xa1 ∷ 2 ∷ 0 ∷ 4 ∷ 0 ∷ 1 ∷ 2 ∷ 3 ∷ 4 ∷ 0 ∷ 0 ∷ 0 ∷ 0 ∷ 0xff ∷ 0xff ∷ 0 ∷ 0 ∷ 1 ∷ 0 ∷ 0 ∷ 0 ∷ []

abbrev big : List ℕ
big = 0xa1 ∷ 0xb2 ∷ 0xc3 ∷ 0xd4 ∷ 0 ∷ 2 ∷ 0 ∷ 4 ∷ 0 ∷ 0 ∷ 0 ∷ 0 ∷ 0 ∷ 0 ∷ 0 ∷ 0 ∷ 0 ∷ 0 ∷ 0xff ∷ 0xff ∷ 0 ∷ 0 ∷ 0 ∷ 1 ∷ []

-- 1,000,000 microseconds, three octets of five
abbrev little_record : List ℕ
little_record = 1 ∷ 0 ∷ 0 ∷ 0 ∷ 0x40 ∷ 0x42 ∷ 0x0f ∷ 0 ∷ 3 ∷ 0 ∷ 0 ∷ 0 ∷ 5 ∷ 0 ∷ 0 ∷ 0 ∷ 7 ∷ 8 ∷ 9 ∷ []

-- no octet of one
abbrev empty_record : List ℕ
empty_record = 2 ∷ 0 ∷ 0 ∷ 0 ∷ 0 ∷ 0 ∷ 0 ∷ 0 ∷ 0 ∷ 0 ∷ 0 ∷ 0 ∷ 1 ∷ 0 ∷ 0 ∷ 0 ∷ []

header_alone : packets_of little ≡ Ok []
unfolding number_at packets_from
header_alone = refl

two_records : packets_of (little ++ little_record ++ empty_record)
    ≡ Ok (record { sec = 1; usec = 1000000; start = 40; len = 3; original = 5 } ∷ record { sec = 2; usec = 0; start = 59; len = 0; original = 1 } ∷ [])
unfolding number_at packets_from
two_records = refl

its_octets : octets_of (little ++ little_record) (record { sec = 1; usec = 1000000; start = 40; len = 3; original = 5 }) ≡ 7 ∷ 8 ∷ 9 ∷ []
its_octets = refl

highest_octet_first : packets_of (big ++ (0 ∷ 0 ∷ 1 ∷ 2 ∷ 0 ∷ 0 ∷ 0 ∷ 3 ∷ 0 ∷ 0 ∷ 0 ∷ 1 ∷ 0 ∷ 0 ∷ 0 ∷ 4 ∷ 5 ∷ []))
    ≡ Ok (record { sec = 258; usec = 3; start = 40; len = 1; original = 4 } ∷ [])
unfolding number_at packets_from
highest_octet_first = refl

-- a second record that ends in its head, and one that ends in its octets
cut_in_its_head : packets_of (little ++ empty_record ++ (1 ∷ [])) ≡ Err (Record 2)
unfolding number_at packets_from
cut_in_its_head = refl

cut_in_its_octets : packets_of (little ++ (0 ∷ 0 ∷ 0 ∷ 0 ∷ 0 ∷ 0 ∷ 0 ∷ 0 ∷ 2 ∷ 0 ∷ 0 ∷ 0 ∷ 1 ∷ 0 ∷ 0 ∷ 0 ∷ 7 ∷ [])) ≡ Err (Record 1)
unfolding number_at packets_from
cut_in_its_octets = refl

no_octets : packets_of [] ≡ Err Header
no_octets = refl

-- pcapng, and classic pcap with nanoseconds
pcapng : packets_of (0x0a ∷ 0x0d ∷ 0x0d ∷ 0x0a ∷ replicate 40 0) ≡ Err Header
pcapng = refl

nanoseconds : packets_of (0x4d ∷ 0x3c ∷ 0xb2 ∷ 0xa1 ∷ 2 ∷ 0 ∷ 4 ∷ 0 ∷ replicate 12 0 ++ (1 ∷ 0 ∷ 0 ∷ 0 ∷ [])) ≡ Err Header
nanoseconds = refl

-- link type 113, of a capture on all interfaces
other_link : packets_of (0xd4 ∷ 0xc3 ∷ 0xb2 ∷ 0xa1 ∷ 2 ∷ 0 ∷ 4 ∷ 0 ∷ replicate 12 0 ++ (113 ∷ 0 ∷ 0 ∷ 0 ∷ [])) ≡ Err Link
unfolding number_at
other_link = refl

-- seconds up to 4,294,967,295, and no row without a time
time_too_great : timed_of I (codes "4294967296,5,020000000001,info,QL-PRC") ≡ None
unfolding timed_by number_of said_by
time_too_great = refl

no_time : timed_of I (codes "020000000001,info,QL-PRC") ≡ None
unfolding timed_by number_of said_by
no_time = refl
