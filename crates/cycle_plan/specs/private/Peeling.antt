-- How lines get their ranks one after another: what only private clauses cite.
use Rattle.std.specs.Prelude.{◌≡◌, ◌≢◌, ℕ, ◌+◌, ◌*◌, ◌<◌, ◌≤◌, ◌⊎◌, Bool, true, ◌==◌, IsTrue, List, length, Option, Some, None, slice_get, is_none}
use Rattle.std.specs.Option.{option_map}
use Rattle.std.specs.List.{All, Contains, count_by}
use Rattle.sync_topo.specs.Topology.{Topology}
use Rattle.sync_topo.specs.Lines.{line_count, IsNominated, sender_of, receiver_of, inputs_of}
use Rattle.sync_topo.specs.Ranks.{HopTest}
use Rattle.rank_cert.specs.Ranks.{Ranks, rank_at}
use Rattle.sync_topo.specs.declared.input.LineId.{LineId}
use Rattle.sync_topo.specs.declared.returns.ReturnRule.{ReturnRule}
use Rattle.sync_topo.specs.Hops.{HopsBy, hops_by}
use Rattle.cycle_plan.specs.private.Numbers.{number_in, number_out}
use Rattle.cycle_plan.specs.private.Inputs.{AreOpenInputs}
use Rattle.cycle_plan.specs.private.Greatest.{greatest_but}
use Rattle.cycle_plan.specs.declared.greatest.Greatest.{Greatest}
use Rattle.cycle_plan.specs.declared.inputs.OpenInputs.{OpenInputs}
use Rattle.cycle_plan.specs.declared.ranking.Ranking.{Ranking}

-- all lines that hop to the line have ranks, and the rank is one more than their greatest, or 0 without any
pub record IsNext (hop : HopTest) (rank_at : ℕ → Option ℕ) (line rank : ℕ) : Type 0 where
  pub above : (from : ℕ) → IsTrue (hop from line) → (lower : ℕ) × (rank_at from ≡ Some lower) × (lower < rank)
  pub reached : (rank ≡ 0) ⊎ ((from : ℕ) × (lower : ℕ) × IsTrue (hop from line) × (rank_at from ≡ Some lower) × (rank ≡ lower + 1))

-- each rank is the next after those of the lines that hop there
abbrev pub AreExact : HopTest → (ℕ → Option ℕ) → Type 0
AreExact hop rank_at = (line rank : ℕ) → rank_at line ≡ Some rank → IsNext hop rank_at line rank

-- all that can be ranked is ranked: a line hops to each nominated line without a rank that has none either
pub record IsPeeled (hop : HopTest) (nominated : ℕ → Bool) (rank_at : ℕ → Option ℕ) : Type 0 where
  pub exact : AreExact hop rank_at
  pub only : (line rank : ℕ) → rank_at line ≡ Some rank → IsTrue (nominated line)
  pub stuck : (line : ℕ) → IsTrue (nominated line) → rank_at line ≡ None → (from : ℕ) × IsTrue (hop from line) × (rank_at from ≡ None)

-- how many lines have no rank
abbrev pub left_over : Ranks → ℕ
left_over ranks = count_by is_none ranks

-- the ranks so far
pub record IsRanking (returns : ReturnRule) (plan : Topology) (ranks : Ranks) : Type 0 where
  pub counted : length ranks ≡ line_count plan
  pub exact : AreExact (hops_by returns plan) (rank_at ranks)
  pub only : (line rank : ℕ) → rank_at ranks line ≡ Some rank → IsNominated plan line
  pub below : (line rank : ℕ) → rank_at ranks line ≡ Some rank → rank + left_over ranks < line_count plan

-- the line at a place of an order, if one stands there
abbrev pub line_in : List LineId → ℕ → Option ℕ
line_in order place = option_map (λ line. line.0) (slice_get order place)

-- a line stands among the first n of an order
pub record IsAmongFirst (order : List LineId) (n line : ℕ) : Type 0 where
  pub place : ℕ
  pub early : place < n
  pub there : line_in order place ≡ Some line

-- just the lines that have ranks, each after all that hop to it
pub record IsOrder (returns : ReturnRule) (plan : Topology) (ranks : Ranks) (order : List LineId) : Type 0 where
  pub few : length order + left_over ranks ≤ line_count plan
  pub only : (place line : ℕ) → line_in order place ≡ Some line → IsNominated plan line
  pub each : (line rank : ℕ) → rank_at ranks line ≡ Some rank → IsAmongFirst order (length order) line
  pub after : (place line from : ℕ) → line_in order place ≡ Some line → HopsBy returns plan from line → IsAmongFirst order place from

-- a nominated line into the element that has no rank
pub record IsOpenInto (plan : Topology) (ranks : Ranks) (element line : ℕ) : Type 0 where
  pub nominated : IsNominated plan line
  pub into : receiver_of plan line ≡ element
  pub unranked : rank_at ranks line ≡ None

-- the element's inputs are watched; where the ways back are done, each nominated output over the bundle of an open input
-- has a rank, and where the element is done, each nominated output has one
pub record IsWatched (returns : ReturnRule) (plan : Topology) (ranks : Ranks) (element : ℕ) (watch : OpenInputs) : Type 0 where
  pub watched : AreOpenInputs returns plan ranks (inputs_of plan element) watch
  pub back : watch.back ≡ true → (line from : ℕ) → IsNominated plan line → sender_of plan line ≡ element → IsOpenInto plan ranks element from
      → number_in returns plan from ≡ number_out returns plan line → rank_at ranks line ≢ None
  pub done : watch.done ≡ true → (line : ℕ) → IsNominated plan line → sender_of plan line ≡ element → rank_at ranks line ≢ None

-- how things stand while lines are ranked
pub record IsPeeling (returns : ReturnRule) (plan : Topology) (ranking : Ranking) : Type 0 where
  pub ranked : IsRanking returns plan ranking.ranks
  pub watches : length ranking.watches.items ≡ length plan.elements
  pub watched : (element : ℕ) (watch : OpenInputs) → slice_get ranking.watches.items element ≡ Some watch → IsWatched returns plan ranking.ranks element watch
  pub waiting : All (λ element. element < length plan.elements) ranking.waiting.items
  pub ordered : IsOrder returns plan ranking.ranks ranking.order.items

-- a line hops to the line that has no rank
abbrev pub IsHeld : ReturnRule → Topology → Ranks → ℕ → Type 0
IsHeld returns plan ranks line = (from : ℕ) × HopsBy returns plan from line × (rank_at ranks from ≡ None)

-- the line is held, or its sender waits to be looked at
abbrev pub IsKept : ReturnRule → Topology → Ranking → ℕ → Type 0
IsKept returns plan ranking line = IsHeld returns plan ranking.ranks line ⊎ Contains ranking.waiting.items (sender_of plan line)

-- a bound on the work that is left
abbrev pub work : Ranking → ℕ
work ranking = 2 * left_over ranking.ranks + length ranking.waiting.items

-- more lines are ranked, none loses its rank, and what was kept is kept
pub record IsMore (returns : ReturnRule) (plan : Topology) (before after : Ranking) : Type 0 where
  pub peeling : IsPeeling returns plan after
  pub grows : (line rank : ℕ) → rank_at before.ranks line ≡ Some rank → rank_at after.ranks line ≡ Some rank
  pub keeps : (line : ℕ) → IsKept returns plan before line → IsKept returns plan after line
  pub work : work after ≤ work before

-- each nominated line without a rank is kept
abbrev pub AreKept : ReturnRule → Topology → Ranking → Type 0
AreKept returns plan ranking = (line : ℕ) → IsNominated plan line → rank_at ranking.ranks line ≡ None → IsKept returns plan ranking line

-- no line out of the element waits for a rank that it could have
abbrev pub IsSettled : ReturnRule → Topology → Ranks → ℕ → Type 0
IsSettled returns plan ranks element = (line : ℕ) → IsNominated plan line → sender_of plan line ≡ element → rank_at ranks line ≡ None → IsHeld returns plan ranks line

-- the line is one of those that are meant: of the bundle, if one is named
abbrev pub is_among : ReturnRule → Topology → Option ℕ → ℕ → Bool
is_among returns plan None line = true
is_among returns plan (Some bundle) line = number_out returns plan line == bundle

abbrev pub IsAmong : ReturnRule → Topology → Option ℕ → ℕ → Type 0
IsAmong returns plan only line = IsTrue (is_among returns plan only line)

-- no line without a rank hops to one of the lines out of the element that are meant
abbrev pub AreFree : ReturnRule → Topology → Ranks → ℕ → Option ℕ → Type 0
AreFree returns plan ranks element only =
    (line from : ℕ) → IsNominated plan line → sender_of plan line ≡ element → IsAmong returns plan only line → HopsBy returns plan from line → rank_at ranks from ≢ None

-- each of them comes next after all inputs of the element but those of its own bundle
abbrev pub AreNext : ReturnRule → Topology → Ranks → ℕ → Option ℕ → Greatest → Type 0
AreNext returns plan ranks element only top =
    (line : ℕ) → IsNominated plan line → sender_of plan line ≡ element → IsAmong returns plan only line
    → IsNext (hops_by returns plan) (rank_at ranks) line (greatest_but top (number_out returns plan line))

-- the same, for any line to which no line without a rank hops
abbrev pub IsTopOf : ReturnRule → Topology → Ranks → ℕ → Greatest → Type 0
IsTopOf returns plan ranks element top =
    (line : ℕ) → IsNominated plan line → sender_of plan line ≡ element → ((from : ℕ) → HopsBy returns plan from line → rank_at ranks from ≢ None)
    → IsNext (hops_by returns plan) (rank_at ranks) line (greatest_but top (number_out returns plan line))
