-- Which inputs of an element have no rank yet: what only private clauses cite.
use Rattle.std.specs.Prelude.{◌≡◌, ◌≢◌, ℕ, ◌<◌, ◌≤◌, Bool, true, false, not, ◌&&◌, ◌==◌, List, length, slice_get, is_none, Option, Some, None}
use Rattle.std.specs.Option.{option_map_or, option_and_then}
use Rattle.sync_topo.specs.declared.input.InputId.{InputId}
use Rattle.sync_topo.specs.declared.input.InputId.TheVariants.{Line, Source}
use Rattle.sync_topo.specs.Topology.{Topology}
use Rattle.rank_cert.specs.Ranks.{Ranks, rank_at}
use Rattle.sync_topo.specs.declared.returns.ReturnRule.{ReturnRule}
use Rattle.cycle_plan.specs.private.Numbers.{number_in}
use Rattle.cycle_plan.specs.declared.inputs.OpenInputs.{OpenInputs}

-- the line that an input is; a source is none
abbrev pub line_of : InputId → Option ℕ
line_of (Line line) = Some line.0
line_of (Source source) = None

-- the line at a place among inputs, if one stands there
abbrev pub line_at : List InputId → ℕ → Option ℕ
line_at inputs place = option_and_then line_of (slice_get inputs place)

-- each input that is a line has a number below n
abbrev pub AreWithin : ℕ → List InputId → Type 0
AreWithin n inputs = (place line : ℕ) → line_at inputs place ≡ Some line → line < n

-- the input at a place is a line without a rank
abbrev pub is_open : Ranks → List InputId → ℕ → Bool
is_open ranks inputs place = option_map_or (λ line. is_none (rank_at ranks line)) (line_at inputs place) false

-- and it is of another bundle
abbrev pub is_of_another : ReturnRule → Topology → Ranks → List InputId → ℕ → ℕ → Bool
is_of_another returns plan ranks inputs bundle place =
    option_map_or (λ line. is_none (rank_at ranks line) && not (number_in returns plan line == bundle)) (line_at inputs place) false

-- one of the two, by whether a bundle is given
abbrev pub is_next : ReturnRule → Topology → Ranks → List InputId → Option ℕ → ℕ → Bool
is_next returns plan ranks inputs None place = is_open ranks inputs place
is_next returns plan ranks inputs (Some bundle) place = is_of_another returns plan ranks inputs bundle place

-- the input at a place is this line, and it has no rank
pub record IsOpenLine (ranks : Ranks) (inputs : List InputId) (place line : ℕ) : Type 0 where
  pub here : line_at inputs place ≡ Some line
  pub unranked : rank_at ranks line ≡ None

-- no input before the first place is open, and all that are open from there up to the second are of one bundle
pub record AreOpenInputs (returns : ReturnRule) (plan : Topology) (ranks : Ranks) (inputs : List InputId) (watch : OpenInputs) : Type 0 where
  pub first_within : watch.first ≤ length inputs
  pub second_within : watch.second ≤ length inputs
  pub before : (place : ℕ) → place < watch.first → is_open ranks inputs place ≡ false
  pub between : (place other line next : ℕ) → watch.first ≤ place → place < watch.second → watch.first ≤ other → other < watch.second
      → IsOpenLine ranks inputs place line → IsOpenLine ranks inputs other next → number_in returns plan line ≡ number_in returns plan next

-- the places are those of the first open input and of the first open one of another bundle, or the end where there is none
pub record AreFirstOpen (returns : ReturnRule) (plan : Topology) (ranks : Ranks) (inputs : List InputId) (watch : OpenInputs) : Type 0 where
  pub watched : AreOpenInputs returns plan ranks inputs watch
  pub first : watch.first < length inputs → is_open ranks inputs watch.first ≡ true
  pub second : watch.second < length inputs → is_open ranks inputs watch.second ≡ true
  pub apart : watch.second < length inputs → watch.first < watch.second
  pub differ : (line other : ℕ) → line_at inputs watch.first ≡ Some line → line_at inputs watch.second ≡ Some other
      → number_in returns plan line ≢ number_in returns plan other
