-- The lines that repeat when one goes back from line to line. This project's own.
use Rattle.std.specs.Prelude.{ℕ, ◌<◌}
use Rattle.sync_topo.specs.Ranks.{HopTest, IsLowestResidue, StepsBack}

-- going back from the lowest-numbered line of the residue, one comes to the line, and later to it again
pub record Repeats (hop : HopTest) (line : ℕ) : Type 0 where
  pub start : ℕ
  pub lowest : IsLowestResidue hop start
  pub once : ℕ
  pub again : ℕ
  pub later : once < again
  pub comes : StepsBack hop once start line
  pub returns : StepsBack hop again start line
