-- The definitions at frames written by hand. Only read: no clause cites it.
use Rattle.std.specs.Prelude.{◌≡◌, ℕ, true, false, List, [], ◌∷◌, ◌++◌, Some, None, Ok, Err, take, replicate, slice_set, refl}
use Rattle.esmc_frame.specs.declared.frame.Pdu.{Pdu}
use Rattle.esmc_frame.specs.declared.error.FrameErr.TheVariants.{Length, ItuSubtype}
use Rattle.esmc_frame.specs.Frame.{written_frame}
use Rattle.esmc_frame.specs.Reading.{first_wrong, reading_of}

-- an information message with SSM code 2, sent by 02-00-00-00-00-01
abbrev information : Pdu
information = record { source = 0x02 ∷ 0 ∷ 0 ∷ 0 ∷ 0 ∷ 0x01 ∷ []; event = false; code = 2; extended = None }

abbrev octets : List ℕ
octets = 0x01 ∷ 0x80 ∷ 0xc2 ∷ 0x00 ∷ 0x00 ∷ 0x02 ∷ 0x02 ∷ 0x00 ∷ 0x00 ∷ 0x00 ∷ 0x00 ∷ 0x01 ∷ 0x88 ∷ 0x09 ∷ 0x0a ∷ 0x00 ∷ 0x19 ∷ 0xa7 ∷ 0x00 ∷ 0x01 ∷ 0x10 ∷ 0x00 ∷ 0x00 ∷ 0x00 ∷ 0x01 ∷ 0x00 ∷ 0x04 ∷ 0x02 ∷ replicate 32 0

is_written : written_frame information ≡ octets
is_written = refl

is_read : reading_of octets ≡ Ok information
is_read = refl

-- an event message, and padding that isn't zero
event_is_read : reading_of (take 28 (slice_set octets 20 0x18) ++ replicate 32 0xff) ≡ Ok (record information { event = true })
event_is_read = refl

short_is_refused : reading_of (take 59 octets) ≡ Err Length
short_is_refused = refl

long_is_refused : reading_of (octets ++ replicate 1455 0) ≡ Err Length
long_is_refused = refl

longest_is_read : reading_of (octets ++ replicate 1454 0) ≡ Ok information
longest_is_read = refl

-- of two wrong parts the first is named
first_is_named : first_wrong (slice_set (slice_set octets 24 2) 19 2) ≡ Some ItuSubtype
first_is_named = refl

-- the same with an extended QL TLV: enhanced code 20, clock 0011223344556677, one enhanced EEC
abbrev enhanced : Pdu
enhanced = record information { extended = Some (record { code = 0x20; clock = 0x00 ∷ 0x11 ∷ 0x22 ∷ 0x33 ∷ 0x44 ∷ 0x55 ∷ 0x66 ∷ 0x77 ∷ []; flags = 0; eeecs = 1; eecs = 0 }) }

abbrev enhanced_octets : List ℕ
enhanced_octets = take 28 octets ++ 0x02 ∷ 0x00 ∷ 0x14 ∷ 0x20 ∷ 0x00 ∷ 0x11 ∷ 0x22 ∷ 0x33 ∷ 0x44 ∷ 0x55 ∷ 0x66 ∷ 0x77 ∷ 0x00 ∷ 0x01 ∷ 0x00 ∷ replicate 17 0

enhanced_is_written : written_frame enhanced ≡ enhanced_octets
enhanced_is_written = refl

enhanced_is_read : reading_of (enhanced_octets ++ replicate 1454 0xff) ≡ Ok enhanced
enhanced_is_read = refl

-- of another length it is padding
other_length : reading_of (slice_set enhanced_octets 30 0x13) ≡ Ok information
other_length = refl
