-- What has to stand still for a settled millisecond to stay, and what then stays. This project's own.
use Rattle.std.specs.Prelude.{◌≡◌, ◌≤◌, ◌<◌, ℕ, ◌-◌, suc, [], length}
use Rattle.sync_ql.specs.Quiet.{IsSameOutput}
use Rattle.sync_topo.specs.declared.input.InputId.{InputId}
use Rattle.sync_topo.specs.Topology.{Topology}
use Rattle.sync_topo.specs.Lines.{line_input, line_count, delay_of, IsNominated}
use Rattle.net_rules.specs.Signals.{Signals}
use Rattle.net_rules.specs.History.{Levels, settings_of, element_past, taken_at}

-- from a millisecond on nothing changes outside, and no command is given. That a wait-to-restore time is
-- cleared makes no difference
pub record IsQuietAfter (signals : Signals) (t : ℕ) : Type 0 where
  pub up : (input : InputId) (u : ℕ) → t ≤ u → signals.up input (suc u) ≡ signals.up input u
  pub esmc : (line u : ℕ) → t ≤ u → signals.esmc line (suc u) ≡ signals.esmc line u
  pub source_level : (source u : ℕ) → t ≤ u → signals.source_level source (suc u) ≡ signals.source_level source u
  pub commands : (element u : ℕ) → t ≤ u → signals.commands element (suc u) ≡ []

-- from one millisecond to another a line stays up or down, and its ESMC on or off, as at the first
pub record IsStill (signals : Signals) (line from until : ℕ) : Type 0 where
  pub up : (t : ℕ) → from ≤ t → t < until → signals.up (line_input line) (suc t) ≡ signals.up (line_input line) t
  pub esmc : (t : ℕ) → from ≤ t → t < until → signals.esmc line (suc t) ≡ signals.esmc line t

-- each nominated line has been up or down, and its ESMC on or off, as it is, for its delay
abbrev pub AreStillBefore : Topology → Signals → ℕ → Type 0
AreStillBefore plan signals t = (line : ℕ) → IsNominated plan line → IsStill signals line (t - delay_of plan line) t

-- in both milliseconds each element of the plan gives the same and takes the same, and each line of it is
-- sent the same
pub record IsSameAt (plan : Topology) (signals : Signals) (out : Levels) (t u : ℕ) : Type 0 where
  pub output : (element : ℕ) → element < length plan.elements → IsSameOutput (settings_of plan element)
      (element_past plan signals out element (suc t)) (element_past plan signals out element (suc u))
  pub taken : (element : ℕ) → element < length plan.elements → taken_at plan signals out element u ≡ taken_at plan signals out element t
  pub sent : (line : ℕ) → line < line_count plan → out line u ≡ out line t
