-- What an advance may cost: by the milliseconds in which something happens. This project's own.
use Rattle.std.specs.Prelude.{ℕ, ◌-◌, ◌||◌, nat_eq, List, length, count_by, sum_by}
use Rattle.std.specs.List.{range_with_len}
use Rattle.sync_topo.specs.declared.event.Event.{Event}
use Rattle.sync_topo.specs.Topology.{Topology}
use Rattle.net_rules.specs.Activity.{is_active, is_busy}

-- the milliseconds from one up to but not at another
abbrev pub milliseconds : ℕ → ℕ → List ℕ
milliseconds from end = range_with_len from (end - from)

-- how many of them are busy, or are the one up to which an advance goes
unfoldable pub turns_in : Topology → List Event → ℕ → ℕ → ℕ → ℕ
turns_in plan events until from end =
    count_by (λ t. is_busy plan events t || nat_eq t until) (milliseconds from end)

-- in how many of them an element is active
unfoldable pub active_times : Topology → List Event → ℕ → ℕ → ℕ → ℕ
active_times plan events element from end = count_by (is_active plan events element) (milliseconds from end)

-- the number of pairs of an element and one of them in which it is active
unfoldable pub active_pairs : Topology → List Event → ℕ → ℕ → ℕ
active_pairs plan events from end =
    sum_by (λ t. count_by (λ element. is_active plan events element t) (range_with_len 0 (length plan.elements)))
    (milliseconds from end)
