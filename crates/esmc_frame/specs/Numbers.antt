-- The numbers by which errors are printed.
use Rattle.std.specs.Prelude.{ℕ}
use Rattle.esmc_frame.specs.declared.error.FrameErr.{FrameErr}
use Rattle.esmc_frame.specs.declared.error.FrameErr.TheVariants.{Length, Destination, Ethertype, Subtype, Oui, ItuSubtype, Version, Tlv}

-- the number of an error. This project's own
abbrev pub number_of : FrameErr → ℕ
number_of Length = 4
number_of Destination = 5
number_of Ethertype = 6
number_of Subtype = 7
number_of Oui = 8
number_of ItuSubtype = 9
number_of Version = 10
number_of Tlv = 11
