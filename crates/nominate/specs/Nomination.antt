-- Priorities by fewest hops, and an order of the elements in which every nominated line leads on. This project's own.
use Rattle.std.specs.Prelude.{◌≡◌, ℕ, ◌+◌, ◌*◌, ◌<◌, Bool, false, ◌&&◌, ◌||◌, ◌==◌, nat_lt, nat_le, max, if◌then◌else◌, List, [], ◌∷◌, length, map, filter, Option, Some, None}
use Rattle.std.specs.List.{range_with_len}
use Rattle.sync_topo.specs.declared.link.Link.{Link}
use Rattle.sync_topo.specs.Topology.{Topology}
use Rattle.sync_topo.specs.Limits.{greatest_priority, input_limit}
use Rattle.sync_topo.specs.Lines.{line_count, sender_of, receiver_of, priority_of, is_nominated, source_priority, sources_at}
use Rattle.rank_cert.specs.Ranks.{Ranks, rank_at}
use Rattle.nominate.specs.HopCount.{Counts, count_at, AreHopCounts}

-- how many of the numbers below n pass a test
unfoldable pub count_below : (ℕ → Bool) → ℕ → ℕ
count_below test n = length (filter test (range_with_len 0 n))

-- by count, and where these are equal by number; nothing without a count comes before or after anything
abbrev pub comes_before : Option ℕ → ℕ → Option ℕ → ℕ → Bool
comes_before None one count other = false
comes_before (Some hops) one None other = false
comes_before (Some hops) one (Some further) other = nat_lt hops further || (hops == further && nat_lt one other)

-- of two elements with counts, the first stands before the second
abbrev pub stands_before : Counts → ℕ → ℕ → Bool
stands_before counts one other = comes_before (count_at counts one) one (count_at counts other) other

-- an element's place in this order, from 0: how many stand before it
abbrev pub order_place : Topology → Counts → ℕ → ℕ
order_place plan counts element = count_below (λ other. stands_before counts other element) (length plan.elements)

-- a line is a candidate where its sender stands before its receiver
abbrev pub is_candidate : Topology → Counts → ℕ → Bool
is_candidate plan counts line = nat_lt line (line_count plan) && stands_before counts (sender_of plan line) (receiver_of plan line)

-- a candidate into the element
abbrev pub is_candidate_into : Topology → Counts → ℕ → ℕ → Bool
is_candidate_into plan counts element line = is_candidate plan counts line && receiver_of plan line == element

-- of two candidates the first comes earlier: by its sender's count, and where these are equal by the line's number
abbrev pub is_earlier : Topology → Counts → ℕ → ℕ → Bool
is_earlier plan counts one other = comes_before (count_at counts (sender_of plan one)) one (count_at counts (sender_of plan other)) other

-- a candidate's number among those into one element, from 1
abbrev pub candidate_number : Topology → Counts → ℕ → ℕ
candidate_number plan counts line =
    count_below (λ other. is_candidate_into plan counts (receiver_of plan line) other && is_earlier plan counts other line) (line_count plan) + 1

-- the greatest of some numbers, and 0 of none
abbrev pub greatest_of : List ℕ → ℕ
greatest_of [] = 0
greatest_of (number ∷ numbers) = max number (greatest_of numbers)

-- the greatest priority that an element gives its own sources, and 0 without one
abbrev pub base_priority : Topology → ℕ → ℕ
base_priority plan element = greatest_of (map (source_priority plan) (sources_at plan element))

-- the priority of the candidate of a number: they follow the element's own sources, as far as priorities go and inputs may be
abbrev pub numbered_priority : Topology → ℕ → ℕ → ℕ
numbered_priority plan element number =
    if nat_le (base_priority plan element + number) greatest_priority && nat_le (number + length (sources_at plan element)) input_limit
    then base_priority plan element + number else 0

-- the new priority of a line; 0 where it is no candidate
abbrev pub new_priority : Topology → Counts → ℕ → ℕ
new_priority plan counts line =
    if is_candidate plan counts line then numbered_priority plan (receiver_of plan line) (candidate_number plan counts line) else 0

-- links from number k on with these priorities of their lines, and else as they were
abbrev pub with_priorities : (ℕ → ℕ) → ℕ → List Link → List Link
with_priorities priority k [] = []
with_priorities priority k (link ∷ links) =
    record link { priority_a = priority (2 * k + 1); priority_b = priority (2 * k) } ∷ with_priorities priority (k + 1) links

-- the plan with these priorities of its lines: all else is as it was
abbrev pub plan_with : Topology → (ℕ → ℕ) → Topology
plan_with plan priority = record plan { links = with_priorities priority 0 plan.links }

-- the plan with the new priorities
abbrev pub nominated_plan : Topology → Counts → Topology
nominated_plan plan counts = plan_with plan (new_priority plan counts)

-- the plan that is nominated by the hop counts
pub record IsNominatedPlan (plan nominated : Topology) : Type 0 where
  pub counts : Counts
  pub are : AreHopCounts plan counts
  pub is : nominated ≡ nominated_plan plan counts

-- a line of priority 1 leads to the element from one with this count
pub record HasFirst (plan : Topology) (counts : Counts) (element hops : ℕ) : Type 0 where
  pub line : ℕ
  pub within : line < line_count plan
  pub into : receiver_of plan line ≡ element
  pub first : priority_of plan line ≡ 1
  pub from : count_at counts (sender_of plan line) ≡ Some hops

-- a line's rank: the place of its sender, where the nominated plan nominates it
abbrev pub order_rank : Topology → Counts → ℕ → Option ℕ
order_rank plan counts line = if is_nominated (nominated_plan plan counts) line then Some (order_place plan counts (sender_of plan line)) else None

-- the ranks by the order of the elements
pub record AreOrderRanks (plan : Topology) (ranks : Ranks) : Type 0 where
  pub counts : Counts
  pub are : AreHopCounts plan counts
  pub counted : length ranks ≡ line_count plan
  pub each : (line : ℕ) → rank_at ranks line ≡ order_rank plan counts line
