-- All closed walks, each once. This project's own.
use Rattle.std.specs.Prelude.{◌≡◌, ◌<◌, ◌⊎◌, ℕ, List, [], ◌∷◌, ⊤}
use Rattle.sync_text.specs.Each.{Each}
use Rattle.sync_topo.specs.Topology.{Topology}
use Rattle.net_rules.specs.Walks.{Taken, IsClosedWalk}

-- the first line of a walk, which is lower than its others
abbrev pub first_line : List ℕ → ℕ
first_line [] = 0
first_line (first ∷ rest) = first

abbrev pub BeginsLowest : List ℕ → Type 0
BeginsLowest [] = ⊤
BeginsLowest (first ∷ rest) = Each (λ line. first < line) rest

-- a closed walk, from its lowest line
abbrev pub IsLoop : Topology → Taken → List ℕ → Type 0
IsLoop plan taken lines = IsClosedWalk plan taken lines × BeginsLowest lines

-- a walk is one of a list
abbrev pub IsListed : List ℕ → List (List ℕ) → Type 0
IsListed lines [] = ⊥
IsListed lines (walk ∷ walks) = (lines ≡ walk) ⊎ IsListed lines walks

-- the first lines rise
abbrev pub AreInOrder : List (List ℕ) → Type 0
AreInOrder [] = ⊤
AreInOrder (walk ∷ walks) = Each (λ other. first_line walk < first_line other) walks × AreInOrder walks

-- all closed walks are listed, each once and from its lowest line, in the order of these
pub record AreLoops (plan : Topology) (taken : Taken) (walks : List (List ℕ)) : Type 0 where
  pub each : Each (IsLoop plan taken) walks
  pub all : (lines : List ℕ) → IsLoop plan taken lines → IsListed lines walks
  pub in_order : AreInOrder walks
