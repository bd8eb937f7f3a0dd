-- Private: the greatest amount of the ways into an element, and the greatest of those with other numbers.
use Rattle.std.specs.Prelude.{◌≡◌, ◌≢◌, ℕ, ◌≤◌, ◌⊎◌, Bool, false, ◌==◌, nat_le, max, if◌then◌else◌, None, Some}
use Rattle.std.specs.Option.{option_map_or}
use Rattle.cycle_plan.specs.declared.greatest.Greatest.{Greatest}

-- without a way in
abbrev pub no_greatest : Greatest
no_greatest = record { number = None; most = 0; without = 0 }

-- the number is that of a way in of the greatest amount
abbrev pub has_number : Greatest → ℕ → Bool
has_number greatest number = option_map_or (λ other. other == number) greatest.number false

-- the greatest amount over all ways in but those of a number
abbrev pub greatest_but : Greatest → ℕ → ℕ
greatest_but greatest number = if has_number greatest number then greatest.without else greatest.most

-- with one more way in, of a number and an amount
abbrev pub raised_greatest : Greatest → ℕ → ℕ → Greatest
raised_greatest greatest number amount =
    if has_number greatest number then record { number = greatest.number; most = max greatest.most amount; without = greatest.without }
    else if nat_le greatest.most amount then record { number = Some number; most = amount; without = greatest.most }
    else if nat_le greatest.without amount then record { number = greatest.number; most = greatest.most; without = amount }
    else greatest

-- of the ways in that there are, by their numbers and amounts
pub record IsGreatestWay (IsWay : ℕ → ℕ → Type 0) (greatest : Greatest) : Type 0 where
  pub above : (number amount : ℕ) → IsWay number amount → amount ≤ greatest.most
  pub above_others : (number amount : ℕ) → IsWay number amount → greatest.number ≢ Some number → amount ≤ greatest.without
  pub reached : (greatest.most ≡ 0) ⊎ ((number : ℕ) × IsWay number greatest.most × (greatest.number ≡ Some number))
  pub reached_by_others : (greatest.without ≡ 0) ⊎ ((number : ℕ) × IsWay number greatest.without × (greatest.number ≢ Some number))

-- neither is above a bound
pub record IsBelow (greatest : Greatest) (bound : ℕ) : Type 0 where
  pub most : greatest.most ≤ bound
  pub without : greatest.without ≤ bound
