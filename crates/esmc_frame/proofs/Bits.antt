-- The bits of an octet, as a mask reads them.
use Rattle.std.proofs.Common.{◌≡◌, ℕ, ◌%◌, ◌^◌, not, ◌==◌, nat_eq, bit_and, arith}
use Rattle.std.specs.Int.{bit_at}
use Rattle.std.proofs.lemmas.Nat.{and_mask}
use Rattle.std.proofs.lemmas.Nat.Bits.{and_pow, bit_at-lt}
use Rattle.std.proofs.lemmas.Bool.Decides.{nat_tests}

-- a mask of one bit tells whether it is set
pub masked_bit : (octet : ℕ) → not (nat_eq (bit_and octet 8) 0) ≡ (bit_at octet 3 == 1)
masked_bit octet = rw (and_pow octet 3) (grind (arith, nat_tests, bit_at-lt octet 3))

-- a mask of the low four bits keeps them
pub masked_low_bits : (octet : ℕ) → bit_and octet 15 ≡ octet % 2 ^ 4
masked_low_bits octet = and_mask octet 4
