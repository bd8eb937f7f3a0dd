-- The levels of the elements' own clocks.
use Rattle.std.proofs.Common.{◌≡◌, ℕ, ◌<◌, length, inl, inr, arith}
use Rattle.std.proofs.lemmas.Option.{slice_get_cases}
use Rattle.sync_topo.specs.Topology.{Topology}
use Rattle.sync_topo.specs.WellFormed.{IsWellFormed}
use Rattle.net_rules.specs.History.{settings_of}

-- an element's own level is of the plan's option
pub own-option : (plan : Topology) (element : ℕ) → IsWellFormed plan → element < length plan.elements → (settings_of plan element).own.option ≡ plan.option
unfolding settings_of
own-option plan element well within = elim (slice_get_cases plan.elements element).1 [
  | inl there ↦ rw there.2 (well.elements_fit element there.0 there.2).own_is_clock_level.of_option
  | inr past ↦ absurd (omega (arith, within, past.0))
]
