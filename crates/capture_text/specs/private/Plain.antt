-- Beside specs/Capture.antt, under no public clause: what a frame carries without an extended QL TLV, from the digits of its source.
use Rattle.std.specs.Prelude.{◌≡◌, ◌&&◌, ◌||◌, ℕ, nat_le, Bool, true, false, codes, List, [], length, None}
use Rattle.std.specs.Result.{result_unwrap_or}
use Rattle.hex.specs.Hex.{IsBytes, decode_of, encode_lower}
use Rattle.esmc_frame.specs.declared.frame.Pdu.{Pdu}

-- a digit as it is written: 0 to 9 are 48 to 57, and a to f are 97 to 102
abbrev pub is_lower_digit : ℕ → Bool
is_lower_digit byte = nat_le 48 byte && nat_le byte 57 || nat_le 97 byte && nat_le byte 102

-- the octets that digits give
unfoldable pub octets_of : List ℕ → List ℕ
octets_of digits = result_unwrap_or (decode_of digits) []

-- digits as they are written for a source
pub record IsSource (digits : List ℕ) : Type 0 where
  pub written : encode_lower (octets_of digits) ≡ digits
  pub six : length (octets_of digits) ≡ 6
  pub octets : IsBytes (octets_of digits)

-- the digits of the octet of version and event flag
abbrev pub flag_digits : Bool → List ℕ
flag_digits true = codes "18"
flag_digits false = codes "10"

abbrev pub plain_pdu : List ℕ → Bool → ℕ → Pdu
plain_pdu source event code = record { source = octets_of source; event = event; code = code; extended = None }
