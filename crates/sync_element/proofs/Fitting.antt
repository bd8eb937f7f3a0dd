-- What the tests tell fits the element that they tell it to.
use Rattle.std.proofs.Common.{◌≡◌, ℕ}
