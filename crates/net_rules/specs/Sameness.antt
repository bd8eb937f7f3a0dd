-- When two sets of signals are the same until a millisecond, as far as a plan looks at them.
use Rattle.std.specs.Prelude.{◌≡◌, ◌<◌, ◌≤◌, ℕ, IsTrue, length}
use Rattle.sync_topo.specs.declared.input.InputId.{InputId}
use Rattle.sync_topo.specs.declared.input.InputId.TheVariants.{Source}
use Rattle.sync_topo.specs.Topology.{Topology}
use Rattle.sync_topo.specs.Lines.{IsNominated, is_nominated_input, IsInput}
use Rattle.net_rules.specs.Signals.{Signals}

-- the same comes from outside up to a millisecond, itself included, to all nominated lines and sources and
-- to all elements
pub record IsSameUntil (plan : Topology) (t : ℕ) (signals others : Signals) : Type 0 where
  pub up : (input : InputId) (s : ℕ) → IsInput plan input → IsTrue (is_nominated_input plan input) → s ≤ t →
      signals.up input s ≡ others.up input s
  pub clear : (input : InputId) (s : ℕ) → IsInput plan input → IsTrue (is_nominated_input plan input) → s ≤ t →
      signals.clear input s ≡ others.clear input s
  pub esmc : (line s : ℕ) → IsNominated plan line → s ≤ t → signals.esmc line s ≡ others.esmc line s
  pub source_level : (source s : ℕ) → IsInput plan (Source source) → IsTrue (is_nominated_input plan (Source source)) → s ≤ t →
      signals.source_level source s ≡ others.source_level source s
  pub commands : (element s : ℕ) → element < length plan.elements → s ≤ t →
      signals.commands element s ≡ others.commands element s
