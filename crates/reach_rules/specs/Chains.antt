-- Chains of timing, and what is counted of them. Filters are after G.803, the synchronization reference chain, which counts
-- clocks apart that clean what they pass on; which chains count is this project's own.
use Rattle.std.specs.Prelude.{◌≡◌, ℕ, suc, ◌≤◌, ⊤, Bool, false, nat_le, if◌then◌else◌, List, [], ◌∷◌, length, codes, Some, slice_get}
use Rattle.std.specs.List.{count_by}
use Rattle.std.specs.Option.{option_map_or}
use Rattle.sync_ql.specs.declared.levels.NetOption.{NetOption}
use Rattle.sync_ql.specs.declared.levels.NetOption.TheVariants.{I, II}
use Rattle.sync_ql.specs.declared.levels.Level.{Level}
use Rattle.sync_ql.specs.Level.{place_of, place_of_name}
use Rattle.sync_topo.specs.declared.event.Event.{Event}
use Rattle.sync_topo.specs.Topology.{Topology}
use Rattle.sync_topo.specs.Events.{IsEventList}
use Rattle.sync_topo.specs.Lines.{sender_of, receiver_of, IsNominated}
use Rattle.sync_topo.specs.Hops.{Hops}
use Rattle.net_rules.specs.Settings.{own_level}
use Rattle.net_rules.specs.Walks.{TraceEnd, at_source, at_clock, at_loop, IsTrace}
use Rattle.net_rules.specs.Signals.{signals_by}
use Rattle.net_rules.specs.History.{out_at}
use Rattle.net_rules.specs.Safety.{taken_in}
use Rattle.reach_rules.specs.declared.chain.Chain.{Chain}

-- the name of the least level of a filter
abbrev pub filter_name : NetOption → List ℕ
filter_name I = codes "QL-SSU-B"
filter_name II = codes "QL-ST3E"

-- a level that is not worse
abbrev pub is_filter_level : Level → Bool
is_filter_level level =
    option_map_or (λ least. nat_le (place_of level) least) (place_of_name level.option (filter_name level.option)) false

-- an element is a filter where its own clock has such a level
abbrev pub is_filter : Topology → ℕ → Bool
is_filter plan element = is_filter_level (own_level plan element)

-- a line begins at a filter
abbrev pub begins_at_filter : Topology → ℕ → Bool
begins_at_filter plan line = is_filter plan (sender_of plan line)

-- lines before a line, the nearest first, as a trace has them: each hops to the one after it
abbrev pub LeadTo : Topology → ℕ → List ℕ → Type 0
LeadTo plan line [] = ⊤
LeadTo plan line (before ∷ rest) = Hops plan before line × LeadTo plan before rest

-- a chain into an element, the last line first: nominated lines, each of which hops to the one after it, and the last of
-- which ends there. The empty list is a chain into every element
abbrev pub IsChain : Topology → ℕ → List ℕ → Type 0
IsChain plan element [] = ⊤
IsChain plan element (line ∷ before) = IsNominated plan line × (receiver_of plan line ≡ element) × LeadTo plan line before

-- how many lines of a chain begin at a filter
abbrev pub clocks_of : Topology → List ℕ → ℕ
clocks_of plan chain = count_by (begins_at_filter plan) chain

-- how many lines stand since the last that begins at a filter, this one included; all, where none does
abbrev pub since_of : Topology → List ℕ → ℕ
since_of plan [] = 0
since_of plan (line ∷ before) = if begins_at_filter plan line then 1 else suc (since_of plan before)

-- the greatest that is counted of a chain into an element
pub record IsGreatestOf (plan : Topology) (element : ℕ) (count : List ℕ → ℕ) (greatest : ℕ) : Type 0 where
  pub most : (chain : List ℕ) → IsChain plan element chain → count chain ≤ greatest
  pub reached : (chain : List ℕ) × IsChain plan element chain × (count chain ≡ greatest)

-- the row of an element: of its chains the most lines, the most lines since the last filter, and the most filters
pub record IsRow (plan : Topology) (element : ℕ) (row : Chain) : Type 0 where
  pub links : IsGreatestOf plan element length row.links
  pub since : IsGreatestOf plan element (since_of plan) row.since
  pub clocks : IsGreatestOf plan element (clocks_of plan) row.clocks

-- a row for each element of the plan, in order
pub record AreRows (plan : Topology) (rows : List Chain) : Type 0 where
  pub counted : length rows ≡ length plan.elements
  pub each : (element : ℕ) (row : Chain) → slice_get rows element ≡ Some row → IsRow plan element row

-- lines, the last one first, of which no more is counted than a row says
pub record IsWithin (plan : Topology) (row : Chain) (lines : List ℕ) : Type 0 where
  pub links : length lines ≤ row.links
  pub since : since_of plan lines ≤ row.since
  pub clocks : clocks_of plan lines ≤ row.clocks

-- one more of each
abbrev pub one_more : Chain → Chain
one_more row = record { links = suc row.links; since = suc row.since; clocks = suc row.clocks }

-- a trace ends so at a source or at an own clock
abbrev pub IsOrigin : TraceEnd → Type 0
IsOrigin (at_source source) = ⊤
IsOrigin (at_clock clock) = ⊤
IsOrigin (at_loop again) = ⊥

-- whatever list of events the plan may have, in every millisecond each trace of an element that ends so is within its row
abbrev pub AreBounds : Topology → List Chain → Type 0
AreBounds plan rows =
    (events : List Event) → IsEventList plan events → (t element : ℕ) (row : Chain) → slice_get rows element ≡ Some row
    → (lines : List ℕ) (end : TraceEnd)
    → IsTrace plan (taken_in plan (signals_by plan events) (out_at plan (signals_by plan events)) t) element lines end
    → IsOrigin end → IsWithin plan row lines
