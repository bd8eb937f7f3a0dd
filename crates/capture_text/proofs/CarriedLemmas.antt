-- What the frame on a line carries, from the octets that the line gives.
use Rattle.std.proofs.Common.{◌≡◌, ℕ, List, None, Some, Result, Ok, Err, refl}
use Rattle.std.specs.Result.{result_ok}
use Rattle.hex.specs.declared.error.FromHexError.{FromHexError}
use Rattle.hex.specs.Hex.{decode_of}
use Rattle.esmc_frame.specs.Reading.{reading_of}
use Rattle.capture_text.specs.declared.error.CaptureErr.TheVariants as refusal
use Rattle.capture_text.specs.Capture.{carried_at, value_at}

carried_by : (n : ℕ) (line octets : List ℕ) (given : Result (List ℕ) FromHexError) → decode_of line ≡ given → Some octets ≡ result_ok given → carried_at n line ≡ value_at n (reading_of octets)
unfolding carried_at
carried_by n line octets (Ok found) is same = let one : octets ≡ found = cc in rw (is, one) refl
carried_by n line octets (Err error) is same = cc

refused_by : (n : ℕ) (line : List ℕ) (given : Result (List ℕ) FromHexError) → decode_of line ≡ given → None ≡ result_ok given → carried_at n line ≡ Err (refusal.Hex n)
unfolding carried_at
refused_by n line (Ok found) is same = cc
refused_by n line (Err error) is same = rw is refl

pub octets_carried : (n : ℕ) (line octets : List ℕ) → Some octets ≡ result_ok (decode_of line) → carried_at n line ≡ value_at n (reading_of octets)
octets_carried n line octets same = carried_by n line octets (decode_of line) refl same

pub no_octets : (n : ℕ) (line : List ℕ) → None ≡ result_ok (decode_of line) → carried_at n line ≡ Err (refusal.Hex n)
no_octets n line same = refused_by n line (decode_of line) refl same
