-- Private: numbers of lines by which the hops of each rule of returns are told.
use Rattle.std.specs.Prelude.{ℕ, ◌+◌, if◌then◌else◌}
use Rattle.sync_topo.specs.Topology.{Topology}
use Rattle.sync_topo.specs.Bundles.{line_bundle}
use Rattle.sync_topo.specs.Hops.{is_last_resort}
use Rattle.sync_topo.specs.declared.returns.ReturnRule.{ReturnRule}
use Rattle.sync_topo.specs.declared.returns.ReturnRule.TheVariants.{Barred, Allowed, BarredFromLast}

-- the number that a line has as a way in, and the one that it has as a way out: what comes in goes on over
-- every way out but those of its own number. Where returns are barred that is the number of the line's
-- bundle; where they are allowed no way in has the number of a way out; and where they are barred from a last resort
-- every other way in has a number of its own
abbrev pub number_in : ReturnRule → Topology → ℕ → ℕ
number_in Barred plan line = line_bundle plan line
number_in Allowed plan line = 0
number_in BarredFromLast plan line = if is_last_resort plan line then line_bundle plan line + 1 else 0

abbrev pub number_out : ReturnRule → Topology → ℕ → ℕ
number_out Barred plan line = line_bundle plan line
number_out Allowed plan line = 1
number_out BarredFromLast plan line = line_bundle plan line + 1
