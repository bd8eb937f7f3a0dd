-- How candidates get their numbers: first those from elements with one less, then those from elements with the same count.
-- What only private clauses cite.
use Rattle.std.specs.Prelude.{◌≡◌, ℕ, ◌+◌, ◌<◌, Bool, false, ◌&&◌, ◌==◌, nat_lt, if◌then◌else◌, List, length, Option, Some, None, slice_index, slice_set}
use Rattle.sync_topo.specs.Topology.{Topology}
use Rattle.sync_topo.specs.declared.input.InputId.{InputId}
use Rattle.sync_topo.specs.declared.input.InputId.TheVariants.{Line, Source}
use Rattle.sync_topo.specs.Lines.{line_count, sender_of, receiver_of, source_priority}
use Rattle.nominate.specs.HopCount.{Counts, count_at, is_one_less}
use Rattle.nominate.specs.Nomination.{count_below, numbered_priority}
use Rattle.nominate.specs.declared.numbering.Numbering.{Numbering}

-- both have the same count, and the first has the lower number
abbrev pub is_across : Option ℕ → ℕ → Option ℕ → ℕ → Bool
is_across None one count other = false
is_across (Some hops) one None other = false
is_across (Some hops) one (Some further) other = hops == further && nat_lt one other

-- the line leads to an element of the same count, or else to one with one more
abbrev pub leads : Topology → Counts → Bool → ℕ → Bool
leads plan counts across line =
    if across then is_across (count_at counts (sender_of plan line)) (sender_of plan line) (count_at counts (receiver_of plan line)) (receiver_of plan line)
    else is_one_less (count_at counts (sender_of plan line)) (count_at counts (receiver_of plan line))

-- such a line into the element
abbrev pub leads_into : Topology → Counts → Bool → ℕ → ℕ → Bool
leads_into plan counts across element line = leads plan counts across line && receiver_of plan line == element

-- one more line is looked at: where it is of the kind, it gets the next number of its receiver
pub record IsNumberedOne (plan : Topology) (counts : Counts) (across : Bool) (line : ℕ) (before after : Numbering) : Type 0 where
  pub numbered : after.numbered.items
      ≡ (if leads plan counts across line then slice_set before.numbered.items (receiver_of plan line) (slice_index before.numbered.items (receiver_of plan line) + 1)
      else before.numbered.items)
  pub priorities : after.priorities.items
      ≡ (if leads plan counts across line
      then slice_set before.priorities.items line (numbered_priority plan (receiver_of plan line) (slice_index before.numbered.items (receiver_of plan line) + 1))
      else before.priorities.items)

-- the lines below n are looked at
pub record IsNumbered (plan : Topology) (counts : Counts) (across : Bool) (n : ℕ) (before after : Numbering) : Type 0 where
  pub elements : length after.numbered.items ≡ length plan.elements
  pub lines : length after.priorities.items ≡ line_count plan
  pub numbers : (element : ℕ) → element < length plan.elements
      → slice_index after.numbered.items element ≡ slice_index before.numbered.items element + count_below (leads_into plan counts across element) n
  pub priorities : (line : ℕ) → line < line_count plan
      → slice_index after.priorities.items line
      ≡ (if nat_lt line n && leads plan counts across line
      then numbered_priority plan (receiver_of plan line) (slice_index before.numbered.items (receiver_of plan line) + count_below (leads_into plan counts across (receiver_of plan line)) line + 1)
      else slice_index before.priorities.items line)

-- each line has its new priority
pub record ArePriorities (plan : Topology) (priority : ℕ → ℕ) (priorities : List ℕ) : Type 0 where
  pub counted : length priorities ≡ line_count plan
  pub each : (line : ℕ) → line < line_count plan → slice_index priorities line ≡ priority line

-- the priority that an element gives a source; 0 for a line
abbrev pub own_priority : Topology → InputId → ℕ
own_priority plan (Line line) = 0
own_priority plan (Source source) = source_priority plan source
