-- Places that are marked, in the order of marking. This project's own.
use Rattle.std.specs.Prelude.{◌≡◌, ◌<◌, ℕ, Bool, false, nat_eq, List, [], length, replicate, slice_index_or}
use Rattle.std.specs.List.{All, IsDistinct, list_any}

-- whether each place is marked, and the places that are
pub record Marked : Type 0 where
  pub flags : List Bool
  pub listed : List ℕ

-- so many places, of which none is marked
abbrev pub none_marked : ℕ → Marked
none_marked count = record { flags = replicate count false; listed = [] }

-- just the marked places are listed, each of them once
pub record AreListed (marked : Marked) : Type 0 where
  pub listed : (k : ℕ) → slice_index_or marked.flags k false ≡ list_any (nat_eq k) marked.listed
  pub apart : IsDistinct nat_eq marked.listed
  pub within : All (λ k. k < length marked.flags) marked.listed
