-- Numbers in order.
use Rattle.std.proofs.Common.{◌≡◌, ℕ}
