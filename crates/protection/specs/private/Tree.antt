-- Private: a plan in which each element without a clock of its own takes its timing over one line alone, by which it has the fewest hops.
use Rattle.std.specs.Prelude.{◌≡◌, ◌≢◌, ◌<◌, ℕ, Bool, true, false, nat_eq, if◌then◌else◌, List, length, Option, None, Some, slice_get}
use Rattle.std.specs.Option.{option_flatten, option_map_or}
use Rattle.sync_topo.specs.Topology.{Topology}
use Rattle.sync_topo.specs.Lines.{line_count, sender_of, receiver_of}
use Rattle.sync_topo.specs.WellFormed.{IsWellFormed}
use Rattle.nominate.specs.HopCount.{Counts, count_at, is_one_less, AreHopCounts}
use Rattle.nominate.specs.Nomination.{plan_with}

-- a line comes from an element with one hop less
abbrev pub comes_closer : Topology → Counts → ℕ → Bool
comes_closer plan counts line = is_one_less (count_at counts (sender_of plan line)) (count_at counts (receiver_of plan line))

-- the line that is picked for an element, if one is
abbrev pub pick_at : List (Option ℕ) → ℕ → Option ℕ
pick_at picks element = option_flatten (slice_get picks element)

-- a line into an element that comes closer
pub record IsPick (plan : Topology) (counts : Counts) (element line : ℕ) : Type 0 where
  pub within : line < line_count plan
  pub into : receiver_of plan line ≡ element
  pub closer : comes_closer plan counts line ≡ true

-- only such lines are picked, and one for each element into which one of the first n leads
pub record ArePicks (plan : Topology) (counts : Counts) (n : ℕ) (picks : List (Option ℕ)) : Type 0 where
  pub counted : length picks ≡ length plan.elements
  pub only : (element line : ℕ) → pick_at picks element ≡ Some line → IsPick plan counts element line
  pub each : (line : ℕ) → line < n → comes_closer plan counts line ≡ true → pick_at picks (receiver_of plan line) ≢ None

-- a picked line has the priority 1, and another none
abbrev pub tree_priority : Topology → List (Option ℕ) → ℕ → ℕ
tree_priority plan picks line = if option_map_or (λ pick. nat_eq pick line) (pick_at picks (receiver_of plan line)) false then 1 else 0

-- the plan with these priorities
pub record IsTree (plan tree : Topology) : Type 0 where
  pub counts : Counts
  pub are : AreHopCounts plan counts
  pub picks : List (Option ℕ)
  pub are_picks : ArePicks plan counts (line_count plan) picks
  pub is : tree ≡ plan_with plan (tree_priority plan picks)
  pub well_formed : IsWellFormed plan
