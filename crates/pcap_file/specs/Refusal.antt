-- What a refusal of a capture is printed with.
use Rattle.std.specs.Prelude.{ℕ, Option, Some, None}
use Rattle.pcap_file.specs.declared.error.PcapErr.{PcapErr}
use Rattle.pcap_file.specs.declared.error.PcapErr.TheVariants.{Header, Link, Record}

-- the numbers by which a refusal is printed: its own, and the record. This project's own
abbrev pub numbers_of : PcapErr → ℕ × Option ℕ
numbers_of Header = (40, None)
numbers_of Link = (41, None)
numbers_of (Record n) = (42, Some n)
