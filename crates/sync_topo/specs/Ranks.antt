-- Ranks that rise, walks, cycles, least ranks, and the first cycle where no ranks rise: over any test that says which line hops to which.
use Rattle.std.specs.Prelude.{◌≡◌, ℕ, ◌<◌, ◌≤◌, ⊤, Bool, false, IsTrue, zero, suc, List, [], ◌∷◌, ◌++◌, Option, Some, None}
use Rattle.std.specs.List.{All}

-- which line hops to which. All below holds for any such test.
abbrev pub HopTest : Type 0
HopTest = ℕ → ℕ → Bool

-- the rank is greater after every hop
abbrev pub Rises : HopTest → (ℕ → ℕ) → Type 0
Rises hop rank = (line next : ℕ) → IsTrue (hop line next) → rank line < rank next

-- each line of the list hops to the one after it
abbrev pub Walks : HopTest → List ℕ → Type 0
Walks hop [] = ⊤
Walks hop (line ∷ []) = ⊤
Walks hop (line ∷ next ∷ rest) = IsTrue (hop line next) × Walks hop (next ∷ rest)

-- at least one line, each of which hops to the next, and the last to the first
abbrev pub Circles : HopTest → List ℕ → Type 0
Circles hop [] = ⊥
Circles hop (first ∷ rest) = Walks hop (first ∷ rest ++ first ∷ [])

-- a walk of so many hops ends in the line
abbrev pub HasWalk : HopTest → ℕ → ℕ → Type 0
HasWalk hop zero line = ⊤
HasWalk hop (suc hops) line = (from : ℕ) × IsTrue (hop from line) × HasWalk hop hops from

-- the greatest number of hops of a walk that ends in the line
pub record IsLeastRank (hop : HopTest) (line rank : ℕ) : Type 0 where
  pub walked : HasWalk hop rank line
  pub longest : (hops : ℕ) → HasWalk hop hops line → hops ≤ rank

-- each nominated line has its least rank, and no other line has a rank
pub record AreLeastRanks (hop : HopTest) (nominated : ℕ → Bool) (rank_at : ℕ → Option ℕ) : Type 0 where
  pub least : (line : ℕ) → IsTrue (nominated line) → (rank : ℕ) × (rank_at line ≡ Some rank) × IsLeastRank hop line rank
  pub none : (line : ℕ) → nominated line ≡ false → rank_at line ≡ None

-- walks of every length end in the line: it is on a cycle, or behind one
abbrev pub IsResidue : HopTest → ℕ → Type 0
IsResidue hop line = (hops : ℕ) → HasWalk hop hops line

-- the lowest-numbered line of the residue that hops to the line
pub record IsBefore (hop : HopTest) (before line : ℕ) : Type 0 where
  pub residue : IsResidue hop before
  pub hops : IsTrue (hop before line)
  pub lowest : (other : ℕ) → IsResidue hop other → IsTrue (hop other line) → before ≤ other

-- the lowest-numbered line of the residue
pub record IsLowestResidue (hop : HopTest) (line : ℕ) : Type 0 where
  pub residue : IsResidue hop line
  pub lowest : (other : ℕ) → IsResidue hop other → line ≤ other

-- the line before is taken so many times, and leads from the first line back to the second
abbrev pub StepsBack : HopTest → ℕ → ℕ → ℕ → Type 0
StepsBack hop zero line back = line ≡ back
StepsBack hop (suc steps) line back = (after : ℕ) × StepsBack hop steps line after × IsBefore hop back after

-- the relation holds from each line to the next, from the first over the list to the last
abbrev pub Leads : (ℕ → ℕ → Type 0) → ℕ → List ℕ → ℕ → Type 0
Leads R first [] last = R first last
Leads R first (next ∷ rest) last = R first next × Leads R next rest last

-- the line and then the rest are the first cycle
pub record IsFirstCycleFrom (hop : HopTest) (line : ℕ) (rest : List ℕ) : Type 0 where
  -- each is the line before the next, and the last is the line before the first
  pub closes : Leads (IsBefore hop) line rest line
  -- it is come to by going back from the lowest-numbered line of the residue
  pub met : (start : ℕ) × (steps : ℕ) × IsLowestResidue hop start × StepsBack hop steps start line
  -- it is listed from its lowest-numbered line, once round
  pub lowest : All (λ other. line < other) rest

-- what repeats when the line before is taken again and again from the lowest-numbered line of the residue,
-- in hop order, from its lowest-numbered line. This project's own.
abbrev pub IsFirstCycle : HopTest → List ℕ → Type 0
IsFirstCycle hop [] = ⊥
IsFirstCycle hop (line ∷ rest) = IsFirstCycleFrom hop line rest
