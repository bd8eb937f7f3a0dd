-- Beside specs/Mosts.antt, under no public clause: what is counted of the chains into elements while their lines are
-- gone through: what only private clauses cite.
use Rattle.std.specs.Prelude.{◌≡◌, ◌≢◌, ℕ, suc, ◌≤◌, ◌⊎◌, Bool, ◌==◌, if◌then◌else◌, List, ◌∷◌, length, Some, slice_get}
use Rattle.sync_topo.specs.declared.input.LineId.{LineId}
use Rattle.sync_topo.specs.Topology.{Topology}
use Rattle.sync_topo.specs.Bundles.{line_bundle}
use Rattle.reach_rules.specs.declared.chain.Chain.{Chain}
use Rattle.reach_rules.specs.Chains.{IsChain, since_of, clocks_of}
use Rattle.cycle_plan.specs.private.Peeling.{IsAmongFirst}
use Rattle.cycle_plan.specs.declared.greatest.Greatest.{Greatest}
use Rattle.cycle_plan.specs.private.Greatest.{no_greatest, greatest_but, raised_greatest, IsGreatestWay, IsBelow}
use Rattle.cycle_plan.specs.declared.reach.Reach.{Reach}

-- without a chain
abbrev pub no_reach : Reach
no_reach = record { links = no_greatest; since = no_greatest; clocks = no_greatest }

-- a chain into the element whose last line stands among the first n of the order, by which bundle it comes in, and what is counted of it
pub record IsCounted (plan : Topology) (order : List LineId) (n element : ℕ) (count : List ℕ → ℕ) (bundle counted : ℕ) : Type 0 where
  pub line : ℕ
  pub before : List ℕ
  pub first : IsAmongFirst order n line
  pub chain : IsChain plan element (line ∷ before)
  pub bundle_is : line_bundle plan line ≡ bundle
  pub counted_is : count (line ∷ before) ≡ counted

-- the greatest count of these chains, and the greatest of those of them that come in by other bundles
pub record IsMost (plan : Topology) (order : List LineId) (n element : ℕ) (count : List ℕ → ℕ) (most : Greatest) : Type 0 where
  pub is : IsGreatestWay (IsCounted plan order n element count) most
  pub few : IsBelow most n

-- all three counts
pub record IsReach (plan : Topology) (order : List LineId) (n element : ℕ) (reach : Reach) : Type 0 where
  pub links : IsMost plan order n element length reach.links
  pub since : IsMost plan order n element (since_of plan) reach.since
  pub clocks : IsMost plan order n element (clocks_of plan) reach.clocks

-- those of each element
pub record AreReaches (plan : Topology) (order : List LineId) (n : ℕ) (reaches : List Reach) : Type 0 where
  pub counted : length reaches ≡ length plan.elements
  pub each : (element : ℕ) (reach : Reach) → slice_get reaches element ≡ Some reach → IsReach plan order n element reach

-- what a line makes of each count before it, where it begins at a filter or not
abbrev pub links_step : Bool → ℕ → ℕ
links_step filters before = suc before

abbrev pub since_step : Bool → ℕ → ℕ
since_step filters before = if filters then 1 else suc before

abbrev pub clocks_step : Bool → ℕ → ℕ
clocks_step filters before = if filters then suc before else before

-- the greatest counts of the chains that end in a line of this bundle out of the element
abbrev pub over : Reach → ℕ → Bool → Chain
over reach bundle filters = record {
  links = links_step filters (greatest_but reach.links bundle);
  since = since_step filters (greatest_but reach.since bundle);
  clocks = clocks_step filters (greatest_but reach.clocks bundle);
}

-- with the chains that end in a line of this bundle into the element
abbrev pub raised_reach : Reach → ℕ → Chain → Reach
raised_reach reach bundle chain = record {
  links = raised_greatest reach.links bundle chain.links;
  since = raised_greatest reach.since bundle chain.since;
  clocks = raised_greatest reach.clocks bundle chain.clocks;
}
